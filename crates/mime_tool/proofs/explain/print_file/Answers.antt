use Rattle.std.proofs.Common.{◌∙◌}
use Rattle.std.proofs.lemmas.Result.{err_from_is_err_and}
use Rattle.mime_tool.specs.ExplainSteps.{database_of}
use Rattle.mime_tool.proofs.ExplainLemmas.Runs.{text_undone, text_written}
use Rattle.mime_tool.proofs.explain.print_file.Goals as goal

pub returns-in_err-explained : goal.returns-in_err-explained
returns-in_err-explained g c =
    let e = err_from_is_err_and c.from_residual.result c.from_residual.ensures.1 in
    let found = c.in_err-explained.ensures in
    let it = c.args.explaining in
    let stored = (g.D.Desk.state c.args.desk.now).stored in
    rw (e.1, e.2) (record {
      same_files = found.same_files;
      same_setting = found.same_setting;
      sinks = text_undone (database_of it) it.output it.order c.args.file.now it.name_only stored _ _ _ found.sinks;
    })

pub returns : goal.returns
returns g c =
    let found = c.in_ok-explained.ensures in
    let written = c.print_explained.ensures in
    let it = c.args.explaining in
    let stored = (g.D.Desk.state c.args.desk.now).stored in
    record {
      same_files = written.same_files ∙ found.same_files;
      same_setting = written.same_setting ∙ found.same_setting;
      sinks = text_written (database_of it) it.output it.order c.args.file.now it.name_only stored _ c.in_ok-explained.explained _ _ _
          found.sinks written.sinks;
    }
