use Rattle.std.proofs.Common.{◌∙◌}
use Rattle.std.proofs.lemmas.Result.{err_from_is_err_and}
use Rattle.mime_tool.specs.Directories.{AreFileLines}
use Rattle.mime_tool.proofs.DirectoryLemmas.DataFiles.{can_be_lines, lines_said, lines_unsaid}
use Rattle.mime_tool.proofs.RunLemmas.Loads.{works_nothing}
use Rattle.mime_tool.proofs.directories.line_file.parse_lines.Goals as goal

pub returns-in_err-file : goal.returns-in_err-file
returns-in_err-file g c =
    let e = err_from_is_err_and c.from_residual.result c.from_residual.ensures.1 in
    let path = c.args.path.now in
    let text = c.args.text.now in
    rw (e.1, e.2) (works_nothing _ g.T.LineFile.Plain g.T.LineFile.plain
    (AreFileLines g.T.LineFile.Spells g.T.LineFile.is_malformed path text) _
    (can_be_lines g.T.LineFile.Plain g.T.LineFile.Spells g.T.LineFile.is_malformed path text g.met.T.LineFile.total))

pub returns-in_err-report_ignored : goal.returns-in_err-report_ignored
returns-in_err-report_ignored g c =
    let e = err_from_is_err_and c.from_residual-in_err-report_ignored.result c.from_residual-in_err-report_ignored.ensures.1 in
    let told = c.in_err-report_ignored.ensures in
    rw (e.1, e.2) (record {
      same_files = told.same_files;
      same_setting = told.same_setting;
      sinks = lines_unsaid _ g.T.LineFile.Plain (Unit {0}) g.T.LineFile.plain g.T.LineFile.Spells g.T.LineFile.is_malformed
          c.args.path.now c.args.text.now _ _ _ c.in_ok-file.file _ (c.skipped.ensures ∙ c.in_ok-file.ensures.skipped)
          c.in_ok-file.ensures.spells told.sinks;
    })

pub returns : goal.returns
returns g c =
    let told = c.in_ok-report_ignored.ensures in
    record {
      same_files = told.same_files;
      same_setting = told.same_setting;
      sinks = lines_said _ g.T.LineFile.Plain (Unit {0}) g.T.LineFile.plain g.T.LineFile.Spells g.T.LineFile.is_malformed
          c.args.path.now c.args.text.now _ _ _ tt c.in_ok-file.file (c.skipped.ensures ∙ c.in_ok-file.ensures.skipped)
          c.in_ok-file.ensures.spells told.sinks;
    }
