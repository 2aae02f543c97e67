use Rattle.std.proofs.Common.{◌≡◌, ◌+◌, length, map}
use Rattle.mime_view.specs.Lists.{KeysAt}
use Rattle.mime_view.specs.Spending.{Spends, per_record}
use Rattle.mime_view.proofs.parents.take_texts.Given as goal

abbrev pub invariant-loop-i : goal.invariant-loop-i
invariant-loop-i l = record {
  size : length l.texts.items ≡ l.i;
  named : KeysAt l.counted l.first 4 (map (λ text. text.now) l.texts.items);
  takes : l.spending.budget.records + l.i ≡ l.fn.spending.budget.records;
  cost : Spends (per_record 256) 1 0 l.fn.spending l.spending;
}
