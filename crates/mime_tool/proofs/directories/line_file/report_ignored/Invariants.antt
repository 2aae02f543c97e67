use Rattle.std.proofs.Common.{Ok, take}
use Rattle.std.specs.List.{flat_map}
use Rattle.mime_tool.specs.Desk.{Does, Works}
use Rattle.mime_tool.specs.Directories.{ignored}
use Rattle.mime_tool.specs.Run.{said}
use Rattle.mime_tool.proofs.directories.line_file.report_ignored.Given as goal

abbrev pub invariant-loop-number : goal.invariant-loop-number
invariant-loop-number g l =
    Works (Does {X = Unit {0}} (said (flat_map (ignored l.path) (take l.number-index l.numbers)))) (g.D.Desk.state l.initial.desk)
    (g.D.Desk.state l.desk) (Ok tt)
