use Rattle.std.proofs.Common.{◌≡◌, ◌≤◌, ◌==◌, length, take}
use Rattle.std.specs.List.{filter}
use Rattle.mime_names.proofs.ranked.count_best.Given as goal

abbrev pub invariant-loop-rule : goal.invariant-loop-rule
invariant-loop-rule l = record {
  counted : l.count ≡ length (filter (λ rule. rule.now.rank == l.first.now.rank) (take l.rule-index l.rules));
  few : l.count ≤ l.rule-index;
}
