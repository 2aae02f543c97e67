-- The first field ends at the separator that was found, or with the line.
use Rattle.std.proofs.Common.{length, ◌+◌, ◌-◌, drop, take_all, length-drop, arith}
use Rattle.mime_text.proofs.LineFiles.Fields.{fields-found, fields-missing}
use Rattle.mime_text.proofs.lines.cut_field.Goals as goal

pub returns-in-Some : goal.returns-in-Some
returns-in-Some c =
    let line = c.args.line.now in
    let at = c.in-Some.end + 1 in
    rw (take_all (length line - at) (drop at line) (omega (arith, length-drop at line)))
    (fields-found c.args.separator line c.in-Some.end c.in-Some.ensures)

pub returns-in-None : goal.returns-in-None
returns-in-None c = fields-missing c.args.separator c.args.line.now c.in-None.ensures
