use Rattle.std.proofs.Common.{Ok, take}
use Rattle.clap.specs.Walk.{texts}
use Rattle.mime_tool.specs.Desk.{Works}
use Rattle.mime_tool.specs.Directories.{AreDirectories}
use Rattle.mime_tool.specs.Loading.{Loads}
use Rattle.mime_tool.proofs.DirectoryLemmas.DirectoryLoops.{plain_of}
use Rattle.mime_tool.proofs.directories.read_directories.Given as goal

abbrev pub invariant-loop-directory : goal.invariant-loop-directory
invariant-loop-directory g l =
    Works (Loads plain_of (AreDirectories (g.D.Desk.state l.initial.desk).stored (texts (take l.directory-index l.directories))))
    (g.D.Desk.state l.initial.desk) (g.D.Desk.state l.desk) (Ok l.dirs)
