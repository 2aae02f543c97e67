use Rattle.std.proofs.Common.{◌∙◌, ap, sym}
use Rattle.std.proofs.lemmas.Result.{err_from_is_err_and}
use Rattle.mime_tool.specs.LineSteps.{plain_lookup}
use Rattle.mime_tool.proofs.AnswerLemmas.AlikeLookups.{looked_up_alike}
use Rattle.mime_tool.proofs.AnswerLemmas.Lines.{comes_undone, comes_written}
use Rattle.mime_tool.proofs.line.print_line.Goals as goal

pub returns-in_err-outcome-clause-line : goal.returns-in_err-outcome-clause-line
returns-in_err-outcome-clause-line g c =
    let e = err_from_is_err_and c.from_residual.result c.from_residual.ensures.1 in
    let known = looked_up_alike c.lookup-lookup.result c.prepare_due.new.self.lookup c.lookup-lookup.ensures
    ∙ ap plain_lookup c.prepare_due.ensures.lookup in
    let found = rw known at c.in_err-outcome.ensures in
    let stored = (g.D.Desk.state c.args.desk.now).stored in
    rw (e.1, e.2) (record {
      same_files = found.same_files;
      same_setting = found.same_setting;
      sinks = comes_undone (plain_lookup c.args.prepared.now.lookup) stored c.args.file.now _ _ _ found.sinks;
    })

pub returns-clause-line : goal.returns-clause-line
returns-clause-line g c =
    let known = looked_up_alike c.lookup-lookup.result c.prepare_due.new.self.lookup c.lookup-lookup.ensures
    ∙ ap plain_lookup c.prepare_due.ensures.lookup in
    let found = c.in_ok-outcome.ensures in
    let written = c.print_outcome.ensures in
    let stored = (g.D.Desk.state c.args.desk.now).stored in
    rw (sym known) (record {
      same_files = written.same_files ∙ found.same_files;
      same_setting = written.same_setting ∙ found.same_setting;
      sinks = comes_written c.lookup-lookup.result stored c.args.file.now c.in_ok-outcome.outcome _ _ _ _ found.sinks written.sinks;
    })
