use Rattle.mime_view.specs.Spending.{spending_of}
use Rattle.mime_c.proofs.ParentSteps.{is_parents}
use Rattle.mime_c.proofs.parents.parents_of.Goals as goal

pub returns-clause-promises : goal.returns-clause-promises
returns-clause-promises c =
    is_parents c.args.opened.now c.args.kind.now (spending_of c.args.meter.now c.of-budget.result)
    (spending_of c.parents_of.new.meter c.parents_of.new.budget) c.of-budget.ensures.records c.parents_of.new.marks c.parents_of.result
    (rw c.new-marks.ensures at c.parents_of.ensures.answer) (rw c.new-marks.ensures at c.parents_of.ensures.taken)
