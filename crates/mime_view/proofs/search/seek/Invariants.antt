use Rattle.std.proofs.Common.{◌-◌, ◌≡◌, ℕ, ◌+◌, ◌*◌, ◌^◌, ◌<◌, ◌≤◌, List, Less, nat_cmp, true, false}
use Rattle.std.specs.Prelude.{◌≢◌}
use Rattle.std.specs.Cmp.Lexicographic.{slice_cmp}
use Rattle.mime_view.specs.Lists.{HasText}
use Rattle.mime_view.proofs.search.seek.Given as goal

abbrev pub invariant-loop-low : goal.invariant-loop-low
invariant-loop-low l = record {
  order : l.low ≤ l.high;
  within : l.high ≤ l.count;
  before : (i : ℕ) (text : List ℕ) → i + 1 ≡ l.low → HasText l.counted l.first l.size i text → slice_cmp nat_cmp text l.fn.key ≡ Less;
  after : (text : List ℕ) → l.high < l.count → HasText l.counted l.first l.size l.high text → slice_cmp nat_cmp text l.fn.key ≢ Less;
  equal : l.equal ≡ true → (l.high < l.count) × HasText l.counted l.first l.size l.high l.fn.key;
  other : l.equal ≡ false → (text : List ℕ) → l.high < l.count → HasText l.counted l.first l.size l.high text → text ≢ l.fn.key;
  rises : l.initial.meter.nodes ≤ l.meter.nodes;
  bytes_rise : l.initial.meter.bytes ≤ l.meter.bytes;
  probes :
      (p : ℕ) × (p ≤ 26) × (2 ^ p * (l.high - l.low) ≤ l.count)
      × (l.meter.nodes ≤ l.initial.meter.nodes + p) × (l.meter.bytes ≤ l.initial.meter.bytes + 256 * p);
}

abbrev pub decreases-loop-low : goal.decreases-loop-low
decreases-loop-low l = l.high - l.low
