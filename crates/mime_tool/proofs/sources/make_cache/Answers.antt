use Rattle.std.proofs.lemmas.Result.{err_from_is_err_and}
use Rattle.mime_request.specs.Request.{plain_directories}
use Rattle.mime_tool.specs.Environment.{known_environment}
use Rattle.mime_tool.proofs.RunLemmas.SourceCommands.{make_made, make_refused, make_unloaded}
use Rattle.mime_tool.proofs.sources.make_cache.Goals as goal

pub returns-in_err-database : goal.returns-in_err-database
returns-in_err-database g c =
    let e = err_from_is_err_and c.from_residual.result c.from_residual.ensures.1 in
    rw (e.1, e.2) (make_unloaded (known_environment c.args.environment) (plain_directories c.args.directories.now) _ _ _
    c.in_err-database.ensures)

pub returns-in_err-cache : goal.returns-in_err-cache
returns-in_err-cache g c =
    let e = err_from_is_err_and c.from_residual-in_err-cache.result c.from_residual-in_err-cache.ensures.1 in
    rw (e.1, e.2) (make_refused (known_environment c.args.environment) (plain_directories c.args.directories.now) _ _
    c.in_ok-database.database _ c.in_ok-database.ensures c.in_err-cache.ensures)

pub returns : goal.returns
returns g c =
    make_made (known_environment c.args.environment) (plain_directories c.args.directories.now) _ _ c.in_ok-database.database
    c.in_ok-cache.cache c.in_ok-database.ensures c.database_keeps_limits.ensures c.in_ok-cache.ensures
