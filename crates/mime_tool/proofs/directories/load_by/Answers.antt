use Rattle.std.proofs.Common.{option_map}
use Rattle.std.proofs.lemmas.Result.{err_from_is_err_and}
use Rattle.mime_base.specs.Database.{PlainDatabase, plain_database}
use Rattle.mime_base.specs.declared.database.Database.{Database}
use Rattle.mime_tool.specs.Directories.{IsDatabase}
use Rattle.mime_tool.specs.Environment.{plain_environment, user_directories}
use Rattle.mime_tool.proofs.RunLemmas.Loads.{works_nothing}
use Rattle.mime_tool.proofs.DirectoryLemmas.Merges.{can_be_database}
use Rattle.mime_tool.proofs.directories.load_by.Goals as goal

pub returns-in_err-own : goal.returns-in_err-own
returns-in_err-own g c =
    let e = err_from_is_err_and c.from_residual.result c.from_residual.ensures.1 in
    let stored = (g.D.Desk.state c.args.desk.now).stored in
    let kept = option_map (λ s. s.now) c.args.kept in
    let dirs = user_directories (plain_environment c.args.environment) in
    rw (e.1, e.2) (works_nothing Database PlainDatabase plain_database (IsDatabase stored kept dirs) _ (can_be_database stored kept dirs))

pub returns-in_err-directories : goal.returns-in_err-directories
returns-in_err-directories g c =
    let e = err_from_is_err_and c.from_residual-in_err-directories.result c.from_residual-in_err-directories.ensures.1 in
    let stored = (g.D.Desk.state c.args.desk.now).stored in
    let kept = option_map (λ s. s.now) c.args.kept in
    let dirs = user_directories (plain_environment c.args.environment) in
    rw (e.1, e.2) (works_nothing Database PlainDatabase plain_database (IsDatabase stored kept dirs) _ (can_be_database stored kept dirs))

pub returns : goal.returns
returns g c =
    rw (c.as_slice.ensures.value, c.in_ok-directories.ensures, c.as_str.ensures.value, c.in_ok-own.ensures, c.data_dirs_of-dirs.ensures)
    at c.load_these.ensures
