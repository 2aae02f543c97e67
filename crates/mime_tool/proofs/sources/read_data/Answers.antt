use Rattle.std.proofs.lemmas.Result.{err_from_is_err_and}
use Rattle.mime_tool.proofs.sources.read_data.Goals as goal

pub returns-in_err-database-in-Directories : goal.returns-in_err-database-in-Directories
returns-in_err-database-in-Directories g c =
    let from = c.from_residual-in_err-database-in-Directories in
    let e = err_from_is_err_and from.result from.ensures.1 in
    let load = c.in_err-database-in-Directories.ensures in
    rw (e.1, e.2, c.in-Directories.is) (record {
      same_files = load.same_files;
      same_setting = load.same_setting;
      sinks = load.sinks;
    })
