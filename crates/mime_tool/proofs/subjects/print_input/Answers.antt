use Rattle.std.proofs.Common.{refl}
use Rattle.std.proofs.lemmas.Result.{err_from_is_err_and}
use Rattle.mime_tool.specs.LineSteps.{plain_lookup}
use Rattle.mime_tool.specs.Process.{given_by}
use Rattle.mime_tool.proofs.AnswerLemmas.Lines.{no_kind, one_undone, one_written}
use Rattle.mime_tool.proofs.subjects.print_input.Goals as goal

pub returns-in_err-outcome : goal.returns-in_err-outcome
returns-in_err-outcome g c =
    let e = err_from_is_err_and c.from_residual.result c.from_residual.ensures.1 in
    let content = given_by (g.I.Read.remaining c.args.input) (g.I.Content.health c.args.input) in
    rw (e.1, e.2) (record {
      same_files = refl;
      same_setting = refl;
      sinks = one_undone (λ _. content) c.args.name.now (g.D.Desk.state c.args.desk.now).sinks (plain_lookup c.args.lookup) _
          (no_kind c.args.lookup.inode (g.I.Read.remaining c.args.input) (g.I.Content.health c.args.input)) c.in_err-outcome.ensures;
    })

pub returns : goal.returns
returns g c =
    let written = c.print_outcome.ensures in
    let content = given_by (g.I.Read.remaining c.args.input) (g.I.Content.health c.args.input) in
    record {
      same_files = written.same_files;
      same_setting = written.same_setting;
      sinks = one_written (λ _. content) c.args.name.now _ c.args.lookup c.in_ok-outcome.outcome _ _
          (no_kind c.args.lookup.inode (g.I.Read.remaining c.args.input) (g.I.Content.health c.args.input)) c.in_ok-outcome.ensures
          written.sinks;
    }
