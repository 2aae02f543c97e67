use Rattle.std.proofs.Common.{◌≡◌, ◌≤◌, length, map, take}
use Rattle.std.specs.Vec.{vec_capacity}
use Rattle.mime_names.specs.Rules.{own_parts}
use Rattle.mime_lookup.proofs.HitLemmas.{hit_parts}
use Rattle.mime_lookup.proofs.hits.hits_of.Given as goal

abbrev pub invariant-loop-rule : goal.invariant-loop-rule
invariant-loop-rule l = record {
  long : length l.hits.items ≡ l.rule-index;
  room : length l.rule-items ≤ vec_capacity l.hits;
  are : map hit_parts l.hits.items ≡ map own_parts (take l.rule-index l.rule-items);
}
