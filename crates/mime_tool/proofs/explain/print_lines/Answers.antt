use Rattle.std.proofs.Common.{◌≡◌, refl}
use Rattle.std.proofs.lemmas.Result.{err_from_is_err_and}
use Rattle.mime_tool.specs.Run.{Run, printed}
use Rattle.mime_tool.proofs.DeskLemmas.Desks.{ends_undone}
use Rattle.mime_tool.proofs.explain.print_lines.Goals as goal

pub returns-in_err-print_bytes : goal.returns-in_err-print_bytes
returns-in_err-print_bytes g c =
    let e = err_from_is_err_and c.from_residual.result c.from_residual.ensures.1 in
    let put = c.in_err-print_bytes.ensures in
    let line = printed c.args.lines.now in
    rw (e.1, e.2) (record {
      same_files = put.same_files;
      same_setting = put.same_setting;
      sinks = ends_undone (Unit {0}) (λ (run : Run). run ≡ line) line _ _ _ refl put.sinks;
    })

pub returns : goal.returns
returns g c =
    let put = c.in_ok-print_bytes.ensures in
    record {
      same_files = put.same_files;
      same_setting = put.same_setting;
      sinks = (printed c.args.lines.now, refl, refl, refl, put.sinks);
    }
