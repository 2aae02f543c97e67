use Rattle.std.proofs.lemmas.Result.{err_from_is_err_and}
use Rattle.mime_base.specs.Database.{plain_database}
use Rattle.mime_request.specs.Request.{plain_directories}
use Rattle.mime_tool.specs.Build.{written_of}
use Rattle.mime_tool.specs.Environment.{known_environment}
use Rattle.mime_tool.proofs.BuildLemmas.Prints.{prints_loaded, prints_unloaded, prints_untold}
use Rattle.mime_tool.proofs.build.print_made.Goals as goal

pub returns-in_err-database : goal.returns-in_err-database
returns-in_err-database g c =
    let e = err_from_is_err_and c.from_residual.result c.from_residual.ensures.1 in
    rw (e.1, e.2) (prints_unloaded (known_environment c.args.environment) (plain_directories c.args.directories.now) c.args.drop_twins
    _ _ _ c.in_err-database.ensures)

pub returns-in_err-database-2 : goal.returns-in_err-database-2
returns-in_err-database-2 g c =
    let e = err_from_is_err_and c.from_residual-in_err-database-2.result c.from_residual-in_err-database-2.ensures.1 in
    rw (e.1, e.2) (prints_loaded (known_environment c.args.environment) (plain_directories c.args.directories.now) c.args.drop_twins
    _ _ _ c.in_ok-database.database _ c.in_ok-database.ensures
    (prints_untold (written_of c.args.drop_twins (plain_database c.in_ok-database.database)) _))

pub returns : goal.returns
returns g c =
    prints_loaded (known_environment c.args.environment) (plain_directories c.args.directories.now) c.args.drop_twins _ _ _
    c.in_ok-database.database _ c.in_ok-database.ensures (rw c.in_ok-database-2.ensures at c.print_over.ensures)
