use Rattle.std.proofs.Common.{◌≡◌, None, take}
use Rattle.clap.specs.Walk.{texts}
use Rattle.mime_tool.specs.Directories.{FirstPasses, globs2_beside}
use Rattle.mime_tool.specs.Files.{IsThere}
use Rattle.mime_tool.proofs.directories.first_beside.Given as goal

abbrev pub invariant-loop-directory : goal.invariant-loop-directory
invariant-loop-directory g l =
    (g.D.Desk.state l.desk ≡ g.D.Desk.state l.initial.desk)
    × FirstPasses (λ dir. IsThere ((g.D.Desk.state l.initial.desk).stored (globs2_beside dir))) (texts (take l.directory-index l.directories)) None
