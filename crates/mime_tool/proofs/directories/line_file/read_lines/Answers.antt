use Rattle.std.proofs.Common.{◌≡◌, ◌∙◌}
use Rattle.std.proofs.lemmas.Result.{err_from_is_err_and}
use Rattle.mime_tool.specs.Directories.{AreLinesAt, path_of}
use Rattle.mime_tool.proofs.DirectoryLemmas.DataFiles.{can_be_lines_at}
use Rattle.mime_tool.proofs.RunLemmas.Loads.{works_nothing}
use Rattle.mime_tool.proofs.directories.line_file.read_lines.Goals as goal

pub returns-in_err-path : goal.returns-in_err-path
returns-in_err-path g c =
    let e = err_from_is_err_and c.from_residual.result c.from_residual.ensures.1 in
    let stored = (g.D.Desk.state c.args.desk.now).stored in
    let path = path_of c.args.directory.now c.args.name.now in
    rw (e.1, e.2) (works_nothing _ g.T.LineFile.Plain g.T.LineFile.plain
    (AreLinesAt g.T.LineFile.Spells g.T.LineFile.is_malformed stored path) _
    (can_be_lines_at g.T.LineFile.Plain g.T.LineFile.Spells g.T.LineFile.is_malformed stored path g.met.T.LineFile.total))

pub returns : goal.returns
returns g c =
    let path : c.as_str.result.now ≡ path_of c.args.directory.now c.args.name.now = c.as_str.ensures.value ∙ c.in_ok-path.ensures in
    rw path at c.read_lines_at.ensures
