use Rattle.std.proofs.Common.{ℕ, List, ap, subst, ◌∙◌}
use Rattle.mime_c.specs.Hits.{IsHits}
use Rattle.mime_c.specs.Opened.{Opened}
use Rattle.mime_c.specs.Reader.{IsOfCache, opened}
use Rattle.mime_c.proofs.HitSteps.{is_open_hits}
use Rattle.mime_c.proofs.database.hits.search.Goals as goal

pub returns-clause-promises : goal.returns-clause-promises
returns-clause-promises c =
    let is = c.hits_again-found.ensures in
    subst (λ (cache : List ℕ). IsOfCache cache (IsHits cache c.args.name.now) c.hits_again-found.result)
    (c.indexed-indexed.ensures ∙ ap (λ (it : Opened). it.cache) c.read_paid.ensures.same)
    (opened c.budget-budget.ensures.opens
    (is_open_hits c.indexed-indexed.result.now c.args.name.now c.budget-budget.result c.hits_again-found.new.budget c.hits_again-found.result
    c.budget-budget.ensures.records is.gives is.texts is.count is.front is.fault))
