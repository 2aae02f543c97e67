use Rattle.mime_tool.proofs.NameLemmas.Pieces.{piece_found, piece_missing}
use Rattle.mime_tool.proofs.names.first_piece.Goals as goal

pub returns-in-Some : goal.returns-in-Some
returns-in-Some c = piece_found c.args.bytes.now c.in-Some.end c.in-Some.ensures

pub returns-in-None : goal.returns-in-None
returns-in-None c = piece_missing c.args.bytes.now c.in-None.ensures
