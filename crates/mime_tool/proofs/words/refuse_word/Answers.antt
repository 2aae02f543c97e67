use Rattle.std.proofs.Common.{◌≡◌, refl}
use Rattle.std.proofs.lemmas.Result.{err_from_is_err_and}
use Rattle.mime_tool.specs.Run.{Run, mistaken}
use Rattle.mime_tool.specs.Words.{not_text}
use Rattle.mime_tool.proofs.DeskLemmas.Desks.{other_unsaid}
use Rattle.mime_tool.proofs.words.refuse_word.Goals as goal

pub returns-in_err-report_word : goal.returns-in_err-report_word
returns-in_err-report_word g c =
    let e = err_from_is_err_and c.from_residual.result c.from_residual.ensures.1 in
    let told = c.in_err-report_word.ensures in
    let text = not_text c.args.number in
    rw (e.1, e.2) (record {
      same_files = told.same_files;
      same_setting = told.same_setting;
      sinks = other_unsaid (Unit {0}) (λ (run : Run). run ≡ mistaken text) 2 text _ _ _ refl told.sinks;
    })

pub returns : goal.returns
returns g c =
    let told = c.in_ok-report_word.ensures in
    record {
      same_files = told.same_files;
      same_setting = told.same_setting;
      sinks = (mistaken (not_text c.args.number), refl, refl, refl, told.sinks);
    }
