use Rattle.std.proofs.Common.{◌≡◌, map, take}
use Rattle.mime_base.specs.Format.Stored.{tree_rules}
use Rattle.mime_store.specs.SuffixTree.{ending_rule}
use Rattle.mime_store.proofs.suffix_tree.endings.Given as goal

abbrev pub invariant-loop-rule : goal.invariant-loop-rule
invariant-loop-rule l = map ending_rule l.found.items ≡ tree_rules (take l.rule-index l.rules)
