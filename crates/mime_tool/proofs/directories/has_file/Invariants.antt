use Rattle.std.proofs.Common.{◌≡◌, false, take}
use Rattle.clap.specs.Walk.{texts}
use Rattle.mime_tool.specs.Directories.{HasFile}
use Rattle.mime_tool.proofs.directories.has_file.Given as goal

abbrev pub invariant-loop-name : goal.invariant-loop-name
invariant-loop-name g l =
    (g.D.Desk.state l.desk ≡ g.D.Desk.state l.initial.desk)
    × HasFile (g.D.Desk.state l.initial.desk).stored (texts (take l.name-index l.names)) l.directory false
