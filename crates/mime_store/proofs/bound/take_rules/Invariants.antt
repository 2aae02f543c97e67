use Rattle.std.proofs.Common.{◌≡◌, ◌+◌, sum_by, take}
use Rattle.mime_store.proofs.BoundLemmas.Rules.{rule_bound}
use Rattle.mime_store.proofs.bound.take_rules.Given as goal

abbrev pub invariant-loop-rule : goal.invariant-loop-rule
invariant-loop-rule l = l.rest + sum_by rule_bound (take l.rule-index l.rules) ≡ l.left
