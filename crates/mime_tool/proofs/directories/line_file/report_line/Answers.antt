use Rattle.std.proofs.Common.{◌∙◌, refl}
use Rattle.std.proofs.lemmas.Result.{err_from_is_err_and}
use Rattle.mime_tool.specs.Directories.{ignored}
use Rattle.mime_tool.specs.Run.{said}
use Rattle.mime_tool.proofs.DeskLemmas.Desks.{does_nothing}
use Rattle.mime_tool.proofs.directories.line_file.report_line.Goals as goal

pub returns-in_err-text : goal.returns-in_err-text
returns-in_err-text g c =
    let e = err_from_is_err_and c.from_residual.result c.from_residual.ensures.1 in
    rw (e.1, e.2) (record {
      same_files = refl;
      same_setting = refl;
      sinks = does_nothing (Unit {0})
          (said (ignored c.args.path.now c.args.number)) (g.D.Desk.state c.args.desk.now).sinks;
    })

pub returns : goal.returns
returns g c = rw (c.as_bytes.ensures.value ∙ c.in_ok-text.ensures.ok) at c.complain.ensures
