use Rattle.std.proofs.Common.{◌∙◌, sym}
use Rattle.mime_request.specs.Request.{plain_directories}
use Rattle.mime_tool.specs.Environment.{known_environment}
use Rattle.mime_tool.proofs.BuildLemmas.Prints.{builds_printed}
use Rattle.mime_tool.proofs.build.build.Goals as goal

pub returns-then-eq : goal.returns-then-eq
returns-then-eq g c =
    rw (sym c.eq.ensures ∙ c.if-eq.true) (builds_printed (known_environment c.args.environment) (plain_directories c.args.directories.now)
    c.args.drop_twins c.args.to_terminal c.args.file.now _ _ _ c.print.ensures)

pub returns-else-eq : goal.returns-else-eq
returns-else-eq g c = rw (sym c.eq.ensures ∙ c.if-eq.false) (c.replace.ensures c.args.to_terminal)
