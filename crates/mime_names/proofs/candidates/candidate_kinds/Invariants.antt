use Rattle.std.proofs.Common.{◌≡◌, ◌≤◌, length, map, take}
use Rattle.std.specs.Vec.{vec_capacity}
use Rattle.mime_names.proofs.candidates.candidate_kinds.Given as goal

abbrev pub invariant-loop-rule : goal.invariant-loop-rule
invariant-loop-rule l = record {
  long : length l.kinds.items ≡ l.rule-index;
  room : length l.rule-items ≤ vec_capacity l.kinds;
  are : l.kinds.items ≡ map (λ rule. rule.now.kind) (take l.rule-index l.rule-items);
}
