use Rattle.std.proofs.Common.{◌≡◌, ◌≤◌, ◌==◌, length, take}
use Rattle.std.specs.List.{filter}
use Rattle.mime_base.specs.Kept.{rank_of_rule}
use Rattle.mime_lookup.proofs.candidates.count_best.Given as goal

abbrev pub invariant-loop-rule : goal.invariant-loop-rule
invariant-loop-rule l = record {
  counted : l.count ≡ length (filter (λ rule. rank_of_rule rule.now == l.best) (take l.rule-index l.rules));
  few : l.count ≤ l.rule-index;
}
