use Rattle.std.proofs.Common.{ℕ, List, Vec, refl}
use Rattle.std.proofs.lemmas.Result.{err_from_is_err_and}
use Rattle.std.specs.declared.alloc.Global.{Global}
use Rattle.mime_text.specs.declared.magic.file.MagicFile.{MagicFile}
use Rattle.mime_tool.specs.Directories.{IsMagicOrFault, IsTextAt, plain_magic}
use Rattle.mime_tool.proofs.DirectoryLemmas.DataFiles.{works_text}
use Rattle.mime_tool.proofs.DirectoryLemmas.DirectoryFiles.{Magic}
use Rattle.mime_tool.proofs.RunLemmas.Loads.{works_stop, works_then}
use Rattle.mime_tool.proofs.DirectoryLemmas.MagicFiles.{can_be_magic}
use Rattle.mime_tool.proofs.directories.magic_file.read_magic_at.Goals as goal

pub returns-in_err-text : goal.returns-in_err-text
returns-in_err-text g c =
    let e = err_from_is_err_and c.from_residual.result c.from_residual.ensures.1 in
    let path = c.args.path.now in
    rw (e.1, e.2) (works_stop (Vec ℕ Global) (List ℕ) MagicFile Magic (λ v. v.items) plain_magic
    (IsTextAt (g.D.Desk.state c.args.desk.now).stored path) (IsMagicOrFault path) _ _ _ (works_text path _ _ _ c.in_err-text.ensures)
    (can_be_magic path))

pub returns : goal.returns
returns g c =
    let path = c.args.path.now in
    works_then (Vec ℕ Global) (List ℕ) MagicFile Magic (λ v. v.items) plain_magic
    (IsTextAt (g.D.Desk.state c.args.desk.now).stored path) (λ _. IsMagicOrFault path) _ _ _ c.in_ok-text.text _
    (works_text path _ _ _ c.in_ok-text.ensures)
    (record {
      same_files = refl;
      same_setting = refl;
      sinks = (rw c.as_slice.ensures.value at c.parse_magic.ensures) (g.D.Desk.state c.read_text.new.self).sinks;
    })
