use Rattle.std.proofs.Common.{inl}
use Rattle.std.proofs.lemmas.Result.{err_from_is_err_and}
use Rattle.mime_lookup.proofs.LookUpLemmas.Askings.{unopened}
use Rattle.mime_lookup.proofs.cached.subclass.open_and_search.Goals as goal

pub returns-in_err-indexed-clause-stops : goal.returns-in_err-indexed-clause-stops
returns-in_err-indexed-clause-stops c =
    let p = err_from_is_err_and c.from_residual.result c.from_residual.ensures.1 in
    let fault = c.in_err-indexed.ensures.opened in
    rw (p.1, p.2) (unopened c.args.cache _ _ _ fault (inl fault) (λ b enough. (enough.0.offsets, enough.0.header)))

pub returns-clause-stops : goal.returns-clause-stops
returns-clause-stops c = rw c.in_ok-indexed.ensures.opened.0 at c.search_opened.ensures.stops
