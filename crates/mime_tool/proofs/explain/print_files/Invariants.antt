use Rattle.std.proofs.Common.{Ok, take}
use Rattle.clap.specs.Walk.{texts}
use Rattle.mime_tool.specs.Desk.{EndsOverFiles, Works}
use Rattle.mime_tool.specs.ExplainSteps.{looks_of}
use Rattle.mime_tool.specs.Line.{IsTypeLine}
use Rattle.mime_tool.specs.Run.{IsEach}
use Rattle.mime_tool.specs.Words.{names_of}
use Rattle.mime_tool.proofs.explain.print_files.Given as goal

abbrev pub invariant-loop-file : goal.invariant-loop-file
invariant-loop-file g l = Works (EndsOverFiles (IsEach (IsTypeLine (looks_of l.explaining) (g.D.Desk.state l.initial.desk).stored)) (names_of l.raws (texts (take l.file-index l.files))))
    (g.D.Desk.state l.initial.desk) (g.D.Desk.state l.desk) (Ok l.status)
