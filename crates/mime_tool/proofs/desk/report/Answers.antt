use Rattle.std.proofs.Common.{◌∙◌, refl}
use Rattle.std.proofs.lemmas.Result.{err_from_is_err_and}
use Rattle.mime_tool.specs.Run.{refusal, said}
use Rattle.mime_tool.proofs.DeskLemmas.Desks.{does_nothing}
use Rattle.mime_tool.proofs.desk.report.Goals as goal

pub returns-in_err-message : goal.returns-in_err-message
returns-in_err-message g c =
    let e = err_from_is_err_and c.from_residual.result c.from_residual.ensures.1 in
    rw (e.1, e.2) (record {
      same_files = refl;
      same_setting = refl;
      sinks = does_nothing (Unit {0}) (said (refusal c.args.subject.now c.args.why.now))
          (g.D.Desk.state c.args.desk.now).sinks;
    })

pub returns : goal.returns
returns g c = rw (c.as_slice.ensures.value ∙ c.in_ok-message.ensures) at c.complain.ensures
