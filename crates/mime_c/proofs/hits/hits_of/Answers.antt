use Rattle.mime_view.specs.Spending.{spending_of}
use Rattle.mime_c.proofs.HitSteps.{is_hits}
use Rattle.mime_c.proofs.hits.hits_of.Goals as goal

pub returns-clause-promises : goal.returns-clause-promises
returns-clause-promises c =
    is_hits c.args.opened.now c.args.name.now (spending_of c.args.meter.now c.of-budget.result)
    (spending_of c.rule_hits.new.meter c.rule_hits.new.budget) c.rule_hits.result c.of-budget.ensures.records
    c.rule_hits.ensures.gives c.rule_hits.ensures.texts c.rule_hits.ensures.fault
