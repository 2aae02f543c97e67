use Rattle.std.proofs.Common.{◌≡◌, codes, false, refl, true}
use Rattle.std.proofs.lemmas.Result.{err_from_is_err_and}
use Rattle.mime_tool.specs.IsA.{answer_run}
use Rattle.mime_tool.specs.Run.{Run}
use Rattle.mime_tool.proofs.DeskLemmas.Desks.{other_unprinted}
use Rattle.mime_tool.proofs.is_a.print_answer.Goals as goal

pub returns-in_err-print_line : goal.returns-in_err-print_line
returns-in_err-print_line g c =
    let e = err_from_is_err_and c.from_residual.result c.from_residual.ensures.1 in
    let told = c.in_err-print_line.ensures in
    rw (e.1, e.2, c.if-yes.true) (record {
      same_files = told.same_files;
      same_setting = told.same_setting;
      sinks = other_unprinted (Unit {0}) (λ (run : Run). run ≡ answer_run true) 0 (codes "yes\n") _ _ _ refl told.sinks;
    })

pub returns-in_err-print_line-2 : goal.returns-in_err-print_line-2
returns-in_err-print_line-2 g c =
    let e = err_from_is_err_and c.from_residual-in_err-print_line-2.result c.from_residual-in_err-print_line-2.ensures.1 in
    let told = c.in_err-print_line-2.ensures in
    rw (e.1, e.2, c.if-yes.false) (record {
      same_files = told.same_files;
      same_setting = told.same_setting;
      sinks = other_unprinted (Unit {0}) (λ (run : Run). run ≡ answer_run false) 1 (codes "no\n") _ _ _ refl told.sinks;
    })

pub returns-in_ok-print_line : goal.returns-in_ok-print_line
returns-in_ok-print_line g c =
    let told = c.in_ok-print_line.ensures in
    rw c.if-yes.true (record {
      same_files = told.same_files;
      same_setting = told.same_setting;
      sinks = (answer_run true, refl, refl, refl, told.sinks);
    })

pub returns-in_ok-print_line-2 : goal.returns-in_ok-print_line-2
returns-in_ok-print_line-2 g c =
    let told = c.in_ok-print_line-2.ensures in
    rw c.if-yes.false (record {
      same_files = told.same_files;
      same_setting = told.same_setting;
      sinks = (answer_run false, refl, refl, refl, told.sinks);
    })
