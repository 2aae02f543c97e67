use Rattle.std.proofs.Common.{◌≡◌, false, refl, true}
use Rattle.std.proofs.lemmas.Result.{err_from_is_err_and}
use Rattle.mime_tool.specs.Program.{shown}
use Rattle.mime_tool.specs.Run.{Run, printed}
use Rattle.mime_tool.proofs.DeskLemmas.Desks.{ends_undone, other_unsaid}
use Rattle.mime_tool.proofs.program.show_text.Goals as goal

pub returns-in_err-print_text : goal.returns-in_err-print_text
returns-in_err-print_text g c =
    let e = err_from_is_err_and c.from_residual.result c.from_residual.ensures.1 in
    let text = c.args.text.now in
    let told = c.in_err-print_text.ensures in
    rw (e.1, e.2, c.if-is_help.true) (record {
      same_files = told.same_files;
      same_setting = told.same_setting;
      sinks = ends_undone (Unit {0}) (λ (run : Run). run ≡ shown true text) (printed text) _ _ _ refl told.sinks;
    })

pub returns-in_err-complain : goal.returns-in_err-complain
returns-in_err-complain g c =
    let e = err_from_is_err_and c.from_residual-in_err-complain.result c.from_residual-in_err-complain.ensures.1 in
    let text = c.args.text.now in
    let told = rw c.as_bytes.ensures.value at c.in_err-complain.ensures in
    rw (e.1, e.2, c.if-is_help.false) (record {
      same_files = told.same_files;
      same_setting = told.same_setting;
      sinks = other_unsaid (Unit {0}) (λ (run : Run). run ≡ shown false text) 2 text _ _ _ refl told.sinks;
    })

pub returns-in_ok-print_text : goal.returns-in_ok-print_text
returns-in_ok-print_text g c =
    let text = c.args.text.now in
    let told = c.in_ok-print_text.ensures in
    rw c.if-is_help.true (record {
      same_files = told.same_files;
      same_setting = told.same_setting;
      sinks =
          (shown true text, refl, refl, refl, told.sinks);
    })

pub returns-in_ok-complain : goal.returns-in_ok-complain
returns-in_ok-complain g c =
    let text = c.args.text.now in
    let told = rw c.as_bytes.ensures.value at c.in_ok-complain.ensures in
    rw c.if-is_help.false (record {
      same_files = told.same_files;
      same_setting = told.same_setting;
      sinks =
          (shown false text, refl, refl, refl, told.sinks);
    })
