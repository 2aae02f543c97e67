use Rattle.std.proofs.Common.{map, take}
use Rattle.mime_load.specs.Leaves.{plain_entry}
use Rattle.mime_lookup.specs.ReadBack.{AddsRules}
use Rattle.mime_lookup.proofs.read_back.rules.with_leaves.Given as goal

abbrev pub invariant-loop-leaf : goal.invariant-loop-leaf
invariant-loop-leaf l =
    AddsRules l.targets (map (plain_entry l.initial.rules.patterns) (take l.leaf-index l.leaves)) l.initial.rules l.rules
