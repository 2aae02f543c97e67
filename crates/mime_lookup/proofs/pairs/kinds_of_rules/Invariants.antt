use Rattle.std.proofs.Common.{◌≡◌, take, map}
use Rattle.mime_base.specs.Database.PlainPairs.{plain_pairs}
use Rattle.mime_base.specs.Database.Subclass.{resolved}
use Rattle.mime_lookup.specs.Ancestry.{kinds_of}
use Rattle.mime_lookup.proofs.pairs.kinds_of_rules.Given as goal

abbrev pub invariant-loop-rule : goal.invariant-loop-rule
invariant-loop-rule l = kinds_of l.kinds.items ≡ map (λ rule. resolved (plain_pairs l.aliases) rule.now.kind) (take l.rule-index l.rules)
