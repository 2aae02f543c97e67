use Rattle.std.proofs.Common.{ℕ, List, subst}
use Rattle.std.specs.List.{All}
use Rattle.mime_lookup.specs.Cached.{IsCacheText}
use Rattle.mime_lookup.proofs.HitLemmas.{walk-texts}
use Rattle.mime_view.specs.RuleHits.{types_alone}
use Rattle.mime_view.specs.Spending.{spending_of}
use Rattle.mime_lookup.proofs.cached.hits.hits_again.Goals as goal

pub returns-then-len-budget-clause-texts : goal.returns-then-len-budget-clause-texts
returns-then-len-budget-clause-texts c =
    subst (λ (bytes : List ℕ). All (IsCacheText bytes) (types_alone c.in_ok-hits.hits).kinds) c.in-Some.ensures c.in_ok-hits.ensures.text

pub returns-clause-texts : goal.returns-clause-texts
returns-clause-texts c =
    walk-texts c.args.indexed.now (spending_of c.args.meter.now c.args.budget.now)
    (spending_of c.rule_hits-2.new.meter c.rule_hits-2.new.budget) c.rule_hits-2.result
    (rw c.cache.ensures.cache at c.rule_hits-2.ensures.texts)
