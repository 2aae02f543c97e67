use Rattle.mime_view.specs.RuleHits.{AreRuleHits}
use Rattle.mime_view.specs.Spending.{spending_of}
use Rattle.mime_view.proofs.CostLemmas.VisitCounts.{gives_hits}
use Rattle.mime_view.proofs.ListLemmas.NameLists.{rules_named}
use Rattle.mime_view.proofs.cache.Cache.rule_hits.Goals as goal

pub returns-clause-gives : goal.returns-clause-gives
returns-clause-gives c = λ rules spells.
    gives_hits rules c.args.name.now AreRuleHits (spending_of c.args.meter.now c.args.budget.now) c.rule_hits-hits.new.spending
    c.rule_hits-hits.result
    (c.rule_hits-hits.ensures.found rules (rules_named c.args.self.now c.self.inside.counted c.rule_lists.result rules c.self.view_is c.rule_lists.ensures spells))
