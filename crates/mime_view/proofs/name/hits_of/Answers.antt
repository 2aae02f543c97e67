use Rattle.std.proofs.Common.{inl, inr, ⊎_elim}
use Rattle.std.proofs.lemmas.Result.{err_from_is_err_and}
use Rattle.mime_view.specs.NameHits.{lists_part}
use Rattle.mime_view.proofs.HitsLemmas.KindFaults.{named_all}
use Rattle.mime_view.proofs.name.hits_of.Goals as goal

pub returns-in_err-gathered-clause-fault : goal.returns-in_err-gathered-clause-fault
returns-in_err-gathered-clause-fault c =
    let p = err_from_is_err_and c.from_residual.result c.from_residual.ensures.1 in
    rw (p.1, p.2) (⊎_elim inl (λ stop. inr (inr stop)) c.in_err-gathered.ensures.searches.fault)

pub returns-clause-named : goal.returns-clause-named
returns-clause-named c =
    named_all (lists_part c.args.query.now.counted.now c.args.lists c.args.query.now.key.now).Kind c.new.result.offers
    c.gather_hits-gathered.new.progress.hits.offers c.new.ensures.none c.in_ok-gathered.ensures.searches.added
