use Rattle.std.proofs.Common.{◌<◌, Bor, List, ℕ, [], length, arith}
use Rattle.std.proofs.lemmas.Result.{err_from_is_err_and}
use Rattle.mime_tool.proofs.DeskLemmas.Sinks.{takes_pieces}
use Rattle.mime_tool.proofs.sink.put_all.Goals as goal

abbrev no_piece : Bor (List ℕ)
no_piece = record { ref_ptr = (0, 0); now = [] }

pub returns-in_err-put : goal.returns-in_err-put
returns-in_err-put g c =
    let lt : c.loop-piece.piece-index < length c.args.pieces.now = omega arith in
    let e = err_from_is_err_and c.from_residual.result c.from_residual.ensures.1 in
    rw (e.1, e.2) (takes_pieces (λ piece. piece.now) c.args.pieces.now c.loop-piece.piece-index no_piece _ _ _ _ lt c.loop-piece.invariant
    c.in_err-put.ensures.put)
