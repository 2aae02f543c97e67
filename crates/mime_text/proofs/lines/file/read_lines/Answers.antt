use Rattle.std.proofs.Common.{arith}
use Rattle.mime_text.proofs.LineFiles.FirstLine.{lines_within}
use Rattle.mime_text.proofs.lines.file.read_lines.Goals as goal

pub overflow_add-number : goal.overflow_add-number
overflow_add-number g c = grind (arith, lines_within)
