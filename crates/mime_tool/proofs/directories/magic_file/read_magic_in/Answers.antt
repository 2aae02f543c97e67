use Rattle.std.proofs.Common.{◌≡◌, ◌∙◌, codes}
use Rattle.std.proofs.lemmas.Result.{err_from_is_err_and}
use Rattle.mime_text.specs.declared.magic.file.MagicFile.{MagicFile}
use Rattle.mime_tool.specs.Directories.{IsMagicAt, path_of, plain_magic}
use Rattle.mime_tool.proofs.DirectoryLemmas.DirectoryFiles.{Magic}
use Rattle.mime_tool.proofs.RunLemmas.Loads.{works_nothing}
use Rattle.mime_tool.proofs.DirectoryLemmas.MagicFiles.{can_be_magic_at}
use Rattle.mime_tool.proofs.directories.magic_file.read_magic_in.Goals as goal

pub returns-in_err-path : goal.returns-in_err-path
returns-in_err-path g c =
    let e = err_from_is_err_and c.from_residual.result c.from_residual.ensures.1 in
    let stored = (g.D.Desk.state c.args.desk.now).stored in
    let path = path_of c.args.directory.now (codes "magic") in
    rw (e.1, e.2) (works_nothing MagicFile Magic plain_magic (IsMagicAt stored path) _ (can_be_magic_at stored path))

pub returns : goal.returns
returns g c =
    let path : c.as_str.result.now ≡ path_of c.args.directory.now (codes "magic") = c.as_str.ensures.value ∙ c.in_ok-path.ensures in
    rw path at c.read_magic_at.ensures
