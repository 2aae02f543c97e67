use Rattle.std.proofs.Common.{refl}
use Rattle.std.proofs.lemmas.Result.{err_from_is_err_and}
use Rattle.mime_tool.specs.LineSteps.{tail_of_cost}
use Rattle.mime_tool.specs.Output.{answer_of}
use Rattle.mime_tool.specs.Run.{printed}
use Rattle.mime_tool.proofs.DeskLemmas.Desks.{does_nothing}
use Rattle.mime_tool.proofs.line.print_told.Goals as goal

pub returns-in_err-tail : goal.returns-in_err-tail
returns-in_err-tail g c =
    let e = err_from_is_err_and c.from_residual.result c.from_residual.ensures.1 in
    rw (e.1, e.2) (record {
      same_files = refl;
      same_setting = refl;
      sinks = does_nothing (Unit {0}) (printed (answer_of c.args.output c.args.name.now c.args.kind.now (tail_of_cost c.args.cost)))
          (g.D.Desk.state c.args.desk.now).sinks;
    })
