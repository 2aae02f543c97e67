use Rattle.std.proofs.Common.{◌≡◌, ◌+◌, ◌*◌, ◌≤◌, length, map, take}
use Rattle.mime_base.specs.Kept.{hits}
use Rattle.mime_names.specs.Near.{longest, rule_bytes}
use Rattle.mime_lookup.proofs.candidates.candidate_rules.Given as goal

abbrev pub invariant-loop-rule : goal.invariant-loop-rule
invariant-loop-rule l = record {
  found : map (λ rule. rule.now) l.found.items ≡ hits (take l.rule-index l.rules) l.name;
  nodes : l.meter.nodes ≡ l.initial.meter.nodes;
  bytes : l.meter.bytes ≤ l.initial.meter.bytes + l.rule-index * rule_bytes (length l.name) (longest l.rules);
}
