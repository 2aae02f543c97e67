use Rattle.std.proofs.lemmas.Result.{err_from_is_err_and}
use Rattle.mime_base.specs.Database.{plain_database}
use Rattle.mime_tool.proofs.BuildLemmas.Prints.{prints_printed, prints_uncached, prints_unprinted}
use Rattle.mime_tool.proofs.build.print_over.Goals as goal

pub returns-in_err-cache : goal.returns-in_err-cache
returns-in_err-cache g c =
    let e = err_from_is_err_and c.from_residual.result c.from_residual.ensures.1 in
    rw (e.1, e.2) (prints_uncached (plain_database c.args.database.now) _ _ c.in_err-cache.ensures)

pub returns-in_err-print_bytes : goal.returns-in_err-print_bytes
returns-in_err-print_bytes g c =
    let e = err_from_is_err_and c.from_residual-in_err-print_bytes.result c.from_residual-in_err-print_bytes.ensures.1 in
    rw (e.1, e.2) (prints_unprinted (plain_database c.args.database.now) c.in_ok-cache.cache _ _ _ c.in_ok-cache.ensures
    (rw c.as_slice.ensures.value at c.in_err-print_bytes.ensures))

pub returns : goal.returns
returns g c = prints_printed (plain_database c.args.database.now) c.in_ok-cache.cache _ _ tt c.in_ok-cache.ensures
    (rw c.as_slice.ensures.value at c.in_ok-print_bytes.ensures)
