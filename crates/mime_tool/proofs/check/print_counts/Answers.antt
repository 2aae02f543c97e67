use Rattle.std.proofs.Common.{◌≡◌, ◌∙◌, refl}
use Rattle.std.proofs.lemmas.Result.{err_from_is_err_and}
use Rattle.mime_tool.specs.Check.{count_lines}
use Rattle.mime_tool.specs.Run.{Run, printed}
use Rattle.mime_tool.proofs.DeskLemmas.Desks.{ends_undone}
use Rattle.mime_tool.proofs.check.print_counts.Goals as goal

pub returns-in_err-print_text : goal.returns-in_err-print_text
returns-in_err-print_text g c =
    let e = err_from_is_err_and c.from_residual-in_err-print_text.result c.from_residual-in_err-print_text.ensures.1 in
    let text = count_lines c.args.counts in
    let told = rw (c.as_str.ensures.value ∙ c.in_ok-text.ensures) at c.in_err-print_text.ensures in
    rw (e.1, e.2) (record {
      same_files = told.same_files;
      same_setting = told.same_setting;
      sinks = ends_undone (Unit {0}) (λ (run : Run). run ≡ printed text) (printed text) _ _ _ refl told.sinks;
    })

pub returns : goal.returns
returns g c =
    let told = rw (c.as_str.ensures.value ∙ c.in_ok-text.ensures) at c.in_ok-print_text.ensures in
    record {
      same_files = told.same_files;
      same_setting = told.same_setting;
      sinks = (printed (count_lines c.args.counts), refl, refl, refl, told.sinks);
    }
