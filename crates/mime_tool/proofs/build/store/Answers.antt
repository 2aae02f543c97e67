use Rattle.std.proofs.lemmas.Result.{err_from_is_err_and}
use Rattle.mime_base.specs.Database.{plain_database}
use Rattle.mime_tool.proofs.BuildLemmas.BuildOvers.{builds_stored, builds_uncached, builds_unstored}
use Rattle.mime_tool.proofs.build.store.Goals as goal

pub returns-in_err-cache : goal.returns-in_err-cache
returns-in_err-cache g c =
    let e = err_from_is_err_and c.from_residual.result c.from_residual.ensures.1 in
    rw (e.1, e.2) (builds_uncached (plain_database c.args.database.now) c.args.file.now _ _ c.in_err-cache.ensures)

pub returns-in_err-replace : goal.returns-in_err-replace
returns-in_err-replace g c =
    let e = err_from_is_err_and c.from_residual-in_err-replace.result c.from_residual-in_err-replace.ensures.1 in
    rw (e.1, e.2) (builds_unstored (plain_database c.args.database.now) c.args.file.now c.in_ok-cache.cache _ _ _
    c.in_ok-cache.ensures (rw c.as_slice.ensures.value at c.in_err-replace.ensures))

pub returns : goal.returns
returns g c =
    builds_stored (plain_database c.args.database.now) c.args.file.now c.in_ok-cache.cache _ _ tt
    c.in_ok-cache.ensures (rw c.as_slice.ensures.value at c.in_ok-replace.ensures)
