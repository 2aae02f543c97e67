use Rattle.std.proofs.Common.{ℕ, List, Vec}
use Rattle.std.proofs.lemmas.Result.{err_from_is_err_and}
use Rattle.std.specs.declared.alloc.Global.{Global}
use Rattle.mime_tool.specs.Directories.{AreFileLines, IsTextAt}
use Rattle.mime_tool.proofs.DirectoryLemmas.DataFiles.{can_be_lines, works_text}
use Rattle.mime_tool.proofs.RunLemmas.Loads.{works_stop, works_then}
use Rattle.mime_tool.proofs.directories.line_file.read_lines_at.Goals as goal

pub returns-in_err-text : goal.returns-in_err-text
returns-in_err-text g c =
    let e = err_from_is_err_and c.from_residual.result c.from_residual.ensures.1 in
    let path = c.args.path.now in
    rw (e.1, e.2) (works_stop (Vec ℕ Global) (List ℕ) _ g.T.LineFile.Plain (λ v. v.items) g.T.LineFile.plain
    (IsTextAt (g.D.Desk.state c.args.desk.now).stored path) (AreFileLines g.T.LineFile.Spells g.T.LineFile.is_malformed path) _ _ _
    (works_text path _ _ _ c.in_err-text.ensures) (λ text.
    can_be_lines g.T.LineFile.Plain g.T.LineFile.Spells g.T.LineFile.is_malformed path text g.met.T.LineFile.total))

pub returns : goal.returns
returns g c =
    let path = c.args.path.now in
    works_then (Vec ℕ Global) (List ℕ) _ g.T.LineFile.Plain (λ v. v.items) g.T.LineFile.plain
    (IsTextAt (g.D.Desk.state c.args.desk.now).stored path) (λ _. AreFileLines g.T.LineFile.Spells g.T.LineFile.is_malformed path) _ _ _
    c.in_ok-text.text _ (works_text path _ _ _ c.in_ok-text.ensures) (rw c.as_slice.ensures.value at c.parse_lines.ensures)
