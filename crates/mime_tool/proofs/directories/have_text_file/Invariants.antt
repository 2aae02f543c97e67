use Rattle.std.proofs.Common.{◌≡◌, false, take}
use Rattle.clap.specs.Walk.{texts}
use Rattle.mime_tool.specs.Directories.{HaveTextFile}
use Rattle.mime_tool.proofs.directories.have_text_file.Given as goal

abbrev pub invariant-loop-directory : goal.invariant-loop-directory
invariant-loop-directory g l =
    (g.D.Desk.state l.desk ≡ g.D.Desk.state l.initial.desk)
    × HaveTextFile (g.D.Desk.state l.initial.desk).stored (texts (take l.directory-index l.directories)) false
