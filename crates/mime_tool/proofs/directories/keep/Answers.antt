use Rattle.std.proofs.lemmas.Result.{err_from_is_err_and}
use Rattle.mime_tool.proofs.DirectoryLemmas.Missing.{kept_nothing, kept_there, not_there}
use Rattle.mime_tool.proofs.directories.keep.Goals as goal

pub returns-in_err-exists : goal.returns-in_err-exists
returns-in_err-exists g c =
    let e = err_from_is_err_and c.from_residual.result c.from_residual.ensures.1 in
    rw (e.1, e.2) (kept_nothing _ _ _ c.in_err-exists.ensures.stays)

pub returns-then-branch : goal.returns-then-branch
returns-then-branch g c =
    rw c.in-Some.is (kept_there c.in-Some.file.now _ _ _ c.in_ok-exists.ensures.stays
    (rw c.if-branch.true at c.in_ok-exists.ensures.there) c.unreplaced.ensures)

pub returns-else-branch : goal.returns-else-branch
returns-else-branch g c =
    rw c.in-Some.is (not_there c.in-Some.file.now _ _ c.in_ok-exists.ensures.stays
    (rw c.if-branch.false at c.in_ok-exists.ensures.there))
