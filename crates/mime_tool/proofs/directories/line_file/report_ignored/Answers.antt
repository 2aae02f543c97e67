use Rattle.std.proofs.Common.{◌<◌, ◌∙◌, length, arith}
use Rattle.std.proofs.lemmas.Result.{err_from_is_err_and}
use Rattle.mime_tool.specs.Directories.{ignored}
use Rattle.mime_tool.proofs.DeskLemmas.Desks.{says_cut_at}
use Rattle.mime_tool.proofs.directories.line_file.report_ignored.Goals as goal

pub returns-in_err-report_line : goal.returns-in_err-report_line
returns-in_err-report_line g c =
    let lt : c.loop-number.number-index < length c.args.numbers.now = omega arith in
    let e = err_from_is_err_and c.from_residual.result c.from_residual.ensures.1 in
    let before = c.loop-number.invariant in
    let line = c.in_err-report_line.ensures in
    rw (e.1, e.2) (record {
      same_files = line.same_files ∙ before.same_files;
      same_setting = line.same_setting ∙ before.same_setting;
      sinks = says_cut_at (Unit {0}) (ignored c.args.path.now) c.args.numbers.now c.loop-number.number-index 0 _ _ _ _ _ lt before.sinks
          line.sinks;
    })
