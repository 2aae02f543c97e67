use Rattle.std.proofs.Common.{inl}
use Rattle.std.proofs.lemmas.Result.{err_from_is_err_and}
use Rattle.mime_lookup.proofs.LookUpLemmas.Askings.{unopened}
use Rattle.mime_lookup.proofs.cached.icons.open_and_find.Goals as goal

pub returns-in_err-indexed-clause-stops : goal.returns-in_err-indexed-clause-stops
returns-in_err-indexed-clause-stops c =
    let p = err_from_is_err_and c.from_residual.result c.from_residual.ensures.1 in
    let fault = c.in_err-indexed.ensures.opened in
    rw (p.1, p.2) (unopened c.args.cache _ _ _ fault (inl fault) (λ b spelled. (spelled.offsets, spelled.header)))

pub returns-clause-stops : goal.returns-clause-stops
returns-clause-stops c = rw c.in_ok-indexed.ensures.opened.0 at c.find_icons.ensures.stops
