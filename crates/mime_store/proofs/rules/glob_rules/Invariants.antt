use Rattle.std.proofs.Common.{◌≡◌, map, take}
use Rattle.mime_base.specs.Format.Stored.{glob_rules}
use Rattle.mime_store.specs.Views.{rule_of}
use Rattle.mime_store.proofs.rules.glob_rules.Given as goal

abbrev pub invariant-loop-rule : goal.invariant-loop-rule
invariant-loop-rule l = map rule_of l.found.items ≡ glob_rules (take l.rule-index l.rules)
