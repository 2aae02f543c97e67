use Rattle.std.proofs.Common.{◌≡◌, ◌-◌, ◌≤◌, ◌++◌, length, map, take}
use Rattle.mime_base.specs.Database.Lent.{plain_rule}
use Rattle.mime_tool.proofs.explain.rules.push_leaves.Given as goal

abbrev pub decreases-loop-leaf : goal.decreases-loop-leaf
decreases-loop-leaf l = length l.leaves - l.place

abbrev pub invariant-loop-leaf : goal.invariant-loop-leaf
invariant-loop-leaf l = record {
  within : l.place ≤ length l.leaves;
  rules : map plain_rule l.rules.items ≡ map plain_rule l.initial.rules.items ++ take l.place l.leaves;
}
