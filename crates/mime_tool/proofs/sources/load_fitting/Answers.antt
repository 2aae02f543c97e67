use Rattle.std.proofs.Common.{inl, inr}
use Rattle.std.proofs.lemmas.Result.{err_from_is_err_and}
use Rattle.mime_tool.proofs.sources.load_fitting.Goals as goal

pub returns-in_err-database : goal.returns-in_err-database
returns-in_err-database g c =
    let e = err_from_is_err_and c.from_residual.result c.from_residual.ensures.1 in
    let load = c.in_err-database.ensures in
    rw (e.1, e.2) (record { same_files = load.same_files; same_setting = load.same_setting; sinks = inl load.sinks })

pub returns-in_err-keep_fitting : goal.returns-in_err-keep_fitting
returns-in_err-keep_fitting g c =
    let e = err_from_is_err_and c.from_residual-in_err-keep_fitting.result c.from_residual-in_err-keep_fitting.ensures.1 in
    let load = c.in_ok-database.ensures in
    rw (e.1, e.2) (record {
      same_files = load.same_files;
      same_setting = load.same_setting;
      sinks = inr (c.in_ok-database.database, load.sinks, c.in_err-keep_fitting.ensures);
    })

pub returns : goal.returns
returns g c =
    let load = c.in_ok-database.ensures in
    record { same_files = load.same_files; same_setting = load.same_setting; sinks = (load.sinks, c.in_ok-keep_fitting.ensures.1) }
