use Rattle.std.proofs.Common.{◌≡◌, map, take}
use Rattle.mime_base.specs.Database.Lent.{plain_rule}
use Rattle.mime_base.specs.Database.Subclass.{resolved}
use Rattle.mime_load.specs.Lent.{plain_pairs}
use Rattle.mime_tool.specs.ExplainSteps.{kinds_of}
use Rattle.mime_tool.proofs.explain.aliases.kinds_of.Given as goal

abbrev pub invariant-loop-rule : goal.invariant-loop-rule
invariant-loop-rule l = kinds_of l.kinds.items ≡ map (λ rule. resolved (plain_pairs l.aliases) (plain_rule rule).kind) (take l.rule-index l.rules)
