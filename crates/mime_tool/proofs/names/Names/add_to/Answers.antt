use Rattle.std.proofs.Common.{ap, ◌+◌, length}
use Rattle.mime_tool.proofs.NameLemmas.Pieces.{piece_taken}
use Rattle.mime_tool.proofs.names.Names.add_to.Goals as goal

pub returns-clause-piece : goal.returns-clause-piece
returns-clause-piece g c =
    let names = c.args.self.now in
    let piece = c.first_piece-is_ended.result.0.now in
    let ended = c.first_piece-is_ended.result.1 in
    let cuts = rw (c.unread.ensures, c.as_slice.ensures.value) at c.first_piece-is_ended.ensures in (
      piece,
      cuts.0,
      c.in_ok-extend_from_slice.ensures.items,
      piece_taken names.block.items names.given piece ended _ (g.R.Read.remaining names.reader) (g.R.Content.health names.reader)
          (ap (λ n. length piece + n) c.from.ensures) cuts,
    )
