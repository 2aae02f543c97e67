use Rattle.std.proofs.Common.{◌≡◌, refl}
use Rattle.std.proofs.lemmas.Result.{err_from_is_err_and}
use Rattle.mime_tool.specs.Run.{Run, refusal, unanswered}
use Rattle.mime_tool.proofs.DeskLemmas.Desks.{other_unsaid}
use Rattle.mime_tool.proofs.line.refuse.Goals as goal

pub returns-in_err-report : goal.returns-in_err-report
returns-in_err-report g c =
    let e = err_from_is_err_and c.from_residual.result c.from_residual.ensures.1 in
    let told = c.in_err-report.ensures in
    let text = refusal c.args.file.now c.args.why.now in
    rw (e.1, e.2) (record {
      same_files = told.same_files;
      same_setting = told.same_setting;
      sinks = other_unsaid (Unit {0}) (λ (run : Run). run ≡ unanswered text) 1 text _ _ _ refl told.sinks;
    })

pub returns : goal.returns
returns g c =
    let told = c.in_ok-report.ensures in
    record {
      same_files = told.same_files;
      same_setting = told.same_setting;
      sinks = (unanswered (refusal c.args.file.now c.args.why.now), refl, refl, refl, told.sinks);
    }
