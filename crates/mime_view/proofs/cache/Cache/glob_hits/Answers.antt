use Rattle.std.proofs.Common.{◌≡◌, ℕ, List, Ok, subst}
use Rattle.std.specs.List.{All}
use Rattle.std.specs.Prelude.{IfOk}
use Rattle.mime_base.specs.Cache.Texts.{text_at}
use Rattle.mime_view.specs.NameHits.{AreHits}
use Rattle.mime_view.specs.Spending.{spending_of}
use Rattle.mime_view.proofs.CostLemmas.VisitCounts.{gives_hits}
use Rattle.mime_view.proofs.ListLemmas.NameLists.{rules_named}
use Rattle.mime_view.proofs.cache.Cache.glob_hits.Goals as goal

pub returns-clause-gives : goal.returns-clause-gives
returns-clause-gives c = λ rules spells.
    gives_hits rules c.args.name.now (AreHits c.args.which) (spending_of c.args.meter.now c.args.budget.now) c.glob_hits-hits.new.spending
    c.glob_hits-hits.result
    (c.glob_hits-hits.ensures.found rules (rules_named c.args.self.now c.self.inside.counted c.rule_lists.result rules c.self.view_is c.rule_lists.ensures spells))

pub returns-clause-texts : goal.returns-clause-texts
returns-clause-texts c = record {
  text =
      subst (λ (bytes : List ℕ). IfOk c.glob_hits-hits.result (λ hits. All (λ kind. (at : ℕ) × (text_at bytes at ≡ Ok kind)) hits.kinds))
      c.self.view_is c.glob_hits-hits.ensures.gives.text;
  count = c.glob_hits-hits.ensures.gives.count;
  front = c.glob_hits-hits.ensures.gives.front;
}
