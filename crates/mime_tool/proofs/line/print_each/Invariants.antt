use Rattle.std.proofs.Common.{◌≡◌, Ok, take}
use Rattle.clap.specs.Walk.{texts}
use Rattle.mime_tool.specs.Desk.{EndsOverFiles, Works}
use Rattle.mime_tool.specs.Line.{IsTypeLine}
use Rattle.mime_tool.specs.LineSteps.{IsOfSource, plain_lookup}
use Rattle.mime_tool.specs.Run.{IsEach}
use Rattle.mime_tool.specs.Words.{names_of}
use Rattle.mime_tool.proofs.line.print_each.Given as goal

abbrev pub invariant-loop-file : goal.invariant-loop-file
invariant-loop-file g l = record {
  works : Works (EndsOverFiles (IsEach (IsTypeLine (plain_lookup l.initial.prepared.lookup) (g.D.Desk.state l.initial.desk).stored)) (names_of l.raws (texts (take l.file-index l.files))))
      (g.D.Desk.state l.initial.desk) (g.D.Desk.state l.desk) (Ok l.status);
  known : l.prepared.lookup ≡ l.initial.prepared.lookup;
  prepared : IsOfSource l.prepared;
}
