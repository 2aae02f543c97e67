use Rattle.std.proofs.Common.{◌≡◌, refl}
use Rattle.std.proofs.lemmas.Result.{err_from_is_err_and}
use Rattle.mime_tool.specs.Check.{no_database}
use Rattle.mime_tool.specs.Run.{Run, refusal, unanswered}
use Rattle.mime_tool.proofs.DeskLemmas.Desks.{other_unsaid}
use Rattle.mime_tool.proofs.check.refuse.Goals as goal

pub returns-in_err-report : goal.returns-in_err-report
returns-in_err-report g c =
    let e = err_from_is_err_and c.from_residual.result c.from_residual.ensures.1 in
    let told = rw (c.as_bytes.ensures.value, c.no_database.ensures) at c.in_err-report.ensures in
    let text = refusal c.args.path.now (no_database c.args.part) in
    rw (e.1, e.2) (record {
      same_files = told.same_files;
      same_setting = told.same_setting;
      sinks = other_unsaid (Unit {0}) (λ (run : Run). run ≡ unanswered text) 1 text _ _ _ refl told.sinks;
    })

pub returns : goal.returns
returns g c =
    let told = rw (c.as_bytes.ensures.value, c.no_database.ensures) at c.in_ok-report.ensures in
    record {
      same_files = told.same_files;
      same_setting = told.same_setting;
      sinks = (unanswered (refusal c.args.path.now (no_database c.args.part)), refl, refl, refl, told.sinks);
    }
