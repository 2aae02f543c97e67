use Rattle.std.proofs.lemmas.Result.{err_from_is_err_and}
use Rattle.clap.specs.Walk.{texts}
use Rattle.mime_tool.proofs.DirectoryLemmas.Merges.{database_merged, database_unmerged, database_unread}
use Rattle.mime_tool.proofs.directories.merge_these.Goals as goal

pub returns-in_err-dirs : goal.returns-in_err-dirs
returns-in_err-dirs g c =
    let e = err_from_is_err_and c.from_residual.result c.from_residual.ensures.1 in
    rw (e.1, e.2) (database_unread (texts c.args.directories.now) _ _ _ c.in_err-dirs.ensures)

pub returns-in_err-database : goal.returns-in_err-database
returns-in_err-database g c =
    let e = err_from_is_err_and c.from_residual-in_err-database.result c.from_residual-in_err-database.ensures.1 in
    rw (e.1, e.2) (database_unmerged (texts c.args.directories.now) _ _ c.in_ok-dirs.dirs c.in_ok-dirs.ensures)

pub returns : goal.returns
returns g c =
    database_merged (texts c.args.directories.now) _ _ c.in_ok-dirs.dirs c.in_ok-database.database c.in_ok-database.ensures.visible
    c.in_ok-dirs.ensures
