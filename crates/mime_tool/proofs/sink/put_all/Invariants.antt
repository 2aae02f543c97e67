use Rattle.std.proofs.Common.{take}
use Rattle.std.specs.List.{flat_map}
use Rattle.mime_tool.specs.Sink.{Wrote}
use Rattle.mime_tool.proofs.sink.put_all.Given as goal

abbrev pub invariant-loop-piece : goal.invariant-loop-piece
invariant-loop-piece g l =
    Wrote (g.S.Sink.holds l.initial.sink) (g.S.Sink.holds l.sink) (flat_map (λ piece. piece.now) (take l.piece-index l.pieces))
