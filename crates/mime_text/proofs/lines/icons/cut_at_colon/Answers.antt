-- A line is cut at the colon that was found.
use Rattle.std.proofs.Common.{length, ◌+◌, ◌-◌, drop, take_all, length-drop, arith, sym}
use Rattle.mime_text.proofs.LineFiles.Colons.{at_colon-found, at_colon-missing}
use Rattle.mime_text.proofs.lines.icons.cut_at_colon.Goals as goal

pub returns-in-Some : goal.returns-in-Some
returns-in-Some c =
    let line = c.args.line.now in
    let after = c.in-Some.at + 1 in
    rw (take_all (length line - after) (drop after line) (omega (arith, length-drop after line)))
    (sym (at_colon-found line c.in-Some.at c.in-Some.ensures))

pub returns-in-None : goal.returns-in-None
returns-in-None c = sym (at_colon-missing c.args.line.now c.in-None.ensures)
