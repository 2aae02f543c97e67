use Rattle.std.proofs.Common.{◌≡◌, ◌++◌, map, take}
use Rattle.mime_base.specs.Database.Lent.{plain_rule}
use Rattle.mime_load.specs.Lent.{plain_rules}
use Rattle.mime_tool.proofs.explain.rules.push_lent.Given as goal

abbrev pub invariant-loop-rule : goal.invariant-loop-rule
invariant-loop-rule l = map plain_rule l.rules.items ≡ map plain_rule l.initial.rules.items ++ plain_rules (take l.rule-index l.more)
