use Rattle.mime_request.specs.Request.{plain_directories}
use Rattle.mime_tool.specs.Environment.{known_environment}
use Rattle.mime_tool.proofs.BuildLemmas.Prints.{prints_no_terminal}
use Rattle.mime_tool.proofs.build.print.Goals as goal

pub returns-then-to_terminal : goal.returns-then-to_terminal
returns-then-to_terminal g c =
    rw c.if-to_terminal.true (prints_no_terminal (known_environment c.args.environment) (plain_directories c.args.directories.now)
    c.args.drop_twins _ _ c.no_terminal.ensures)
