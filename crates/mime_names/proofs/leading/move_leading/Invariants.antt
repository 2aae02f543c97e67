use Rattle.std.proofs.Common.{◌≡◌, ℕ, ◌≤◌, ◌<◌, Bool, length, get_or, map, take}
use Rattle.mime_names.specs.Chains.{AreBelow}
use Rattle.mime_names.specs.Leading.{IsLeader}
use Rattle.mime_names.specs.Near.{longest, rule_bytes}
use Rattle.mime_names.specs.Places.{AreNear, is_text_at}
use Rattle.mime_names.specs.Rules.{hits_of, offer_of, plain}
use Rattle.mime_names.specs.declared.indexed_rule.IndexedRule.{IndexedRule}
use Rattle.mime_names.proofs.ByteLemmas.{ComparesBefore}
use Rattle.mime_names.proofs.RepeatLemmas.{MatchedBefore}
use Rattle.mime_names.proofs.leading.move_leading.Given as goal

abbrev pub invariant-loop-near : goal.invariant-loop-near
invariant-loop-near l = record {
  leads : (part : IndexedRule → Bool) → AreNear l.patterns part l.rules l.name l.fn.places →
      IsLeader l.rules l.places l.leader (map (offer_of l.patterns) (hits_of l.patterns part (take l.from l.rules) l.name));
  matched : MatchedBefore l.patterns l.rules l.name l.matched;
  count : l.leader.count ≤ l.near;
  long : length l.places ≡ length l.fn.places;
  rest : (j : ℕ) → l.near ≤ j → get_or l.places j 0 ≡ get_or l.fn.places j 0;
  low : AreBelow (length l.rules) l.places;
  within : l.from ≤ length l.rules;
  past : (j : ℕ) → j < l.near → get_or l.fn.places j 0 < l.from;
  nodes : l.meter.nodes ≡ l.fn.meter.nodes;
  bytes : ComparesBefore (is_text_at l.patterns l.rules) l.fn.places (length l.name)
      (rule_bytes (length l.name) (longest (map (plain l.patterns) l.rules))) l.from l.fn.meter.bytes l.meter.bytes;
}
