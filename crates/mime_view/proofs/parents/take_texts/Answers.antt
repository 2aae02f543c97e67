use Rattle.std.proofs.Common.{◌+◌, arith, rules}
use Rattle.std.proofs.lemmas.Result.{err_from_is_err_and}
use Rattle.mime_view.proofs.CostLemmas.Costs.{spends_then}
use Rattle.mime_view.proofs.ListLemmas.TextLists.{KeysAt-pushed, text_fault}
use Rattle.mime_view.specs.Spending.{per_record}
use Rattle.mime_view.proofs.parents.take_texts.Goals as goal

pub loop-i-preserved : goal.loop-i-preserved
loop-i-preserved c = record {
  size = search rules;
  named = KeysAt-pushed c.args.counted.now (c.args.at + 4) c.loop-i.i c.loop-i.texts.items c.push.new.self.items c.in_ok-text-2.text
      c.in_ok-push.ensures.items c.loop-i.invariant.size c.loop-i.invariant.named c.in_ok-text-2.ensures.text.stands;
  takes = omega (arith, c.in_ok-text-2.ensures.text.taken);
  cost = spends_then (per_record 256) 1 0 0 0 c.args.spending.now c.loop-i.spending c.take_text-in-loop-i.new.spending c.loop-i.invariant.cost
      c.take_text-in-loop-i.ensures.cost;
}

pub returns-in_err-text-2-clause-texts : goal.returns-in_err-text-2-clause-texts
returns-in_err-text-2-clause-texts c =
    let p = err_from_is_err_and c.from_residual-in_err-text-2.result c.from_residual-in_err-text-2.ensures.1 in
    rw (p.1, p.2) (text_fault c.args.counted.now c.args.at c.loop-i.i c.args.spending.now.budget.records c.loop-i.spending.budget.records _ _
    (omega (arith, c.loop-i-test.true, c.in_ok-count.ensures.count)) c.loop-i.invariant.takes c.in_err-text-2.ensures.text)
