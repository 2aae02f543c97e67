use Rattle.std.proofs.Common.{◌≡◌, map, take}
use Rattle.mime_base.specs.Database.PlainPairs.{plain_pairs}
use Rattle.mime_lookup.specs.Indexed.{unaliased_rule}
use Rattle.mime_lookup.proofs.indexed.rules.lent_rules.Given as goal

abbrev pub invariant-loop-rule : goal.invariant-loop-rule
invariant-loop-rule l = record {
  given : l.lent.given ≡ map (unaliased_rule (plain_pairs l.aliases.pairs.now)) (take l.rule-index l.rules);
  own : l.lent.own ≡ take l.rule-index l.rules;
}
