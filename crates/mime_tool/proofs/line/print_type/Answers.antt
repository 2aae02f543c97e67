use Rattle.std.proofs.Common.{◌≡◌, refl}
use Rattle.std.proofs.lemmas.Result.{err_from_is_err_and}
use Rattle.mime_tool.specs.LineSteps.{tail_of_cost}
use Rattle.mime_tool.specs.Output.{answer_of, written}
use Rattle.mime_tool.specs.Run.{Run, printed}
use Rattle.mime_tool.proofs.DeskLemmas.Desks.{ends_undone}
use Rattle.mime_tool.proofs.line.print_type.Goals as goal

pub returns-in_err-print_kind : goal.returns-in_err-print_kind
returns-in_err-print_kind g c =
    let e = err_from_is_err_and c.from_residual.result c.from_residual.ensures.1 in
    let put = c.in_err-print_kind.ensures in
    let line = printed (answer_of c.args.output c.args.name.now (written c.args.output c.args.kind.now) (tail_of_cost c.args.cost)) in
    rw (e.1, e.2) (record {
      same_files = put.same_files;
      same_setting = put.same_setting;
      sinks = ends_undone (Unit {0}) (λ (run : Run). run ≡ line) line _ _ _ refl put.sinks;
    })

pub returns : goal.returns
returns g c =
    let put = c.in_ok-print_kind.ensures in
    record {
      same_files = put.same_files;
      same_setting = put.same_setting;
      sinks = (printed (answer_of c.args.output c.args.name.now (written c.args.output c.args.kind.now) (tail_of_cost c.args.cost)), refl, refl, refl, put.sinks);
    }
