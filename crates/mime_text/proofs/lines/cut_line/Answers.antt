-- The first line ends at the newline that was found, or with the text.
use Rattle.std.proofs.Common.{length, ◌+◌, ◌-◌, drop, take_all, length-drop, arith}
use Rattle.mime_text.proofs.LineFiles.FirstLine.{lines-found, lines-missing}
use Rattle.mime_text.proofs.lines.cut_line.Goals as goal

pub returns-in-Some : goal.returns-in-Some
returns-in-Some c =
    let text = c.args.text.now in
    let at = c.in-Some.end + 1 in
    rw (take_all (length text - at) (drop at text) (omega (arith, length-drop at text))) (lines-found text c.in-Some.end c.in-Some.ensures)

pub returns-in-None : goal.returns-in-None
returns-in-None c = lines-missing c.args.text.now c.requires c.in-None.ensures
