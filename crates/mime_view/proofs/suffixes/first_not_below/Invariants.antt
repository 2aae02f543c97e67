use Rattle.std.proofs.Common.{◌-◌, ◌≡◌, ℕ, ◌+◌, ◌*◌, ◌^◌, ◌<◌, ◌≤◌}
use Rattle.mime_base.specs.Cache.Bytes.{field}
use Rattle.mime_base.specs.Meter.{raised}
use Rattle.mime_view.proofs.suffixes.first_not_below.Given as goal

abbrev pub invariant-loop-low : goal.invariant-loop-low
invariant-loop-low l = record {
  order : l.low ≤ l.high;
  within : l.high ≤ l.block.count;
  before : (i : ℕ) → i + 1 ≡ l.low → field l.query.counted.now (l.block.first + 12 * i) 0 < l.byte;
  after : l.high < l.block.count → l.byte ≤ field l.query.counted.now (l.block.first + 12 * l.high) 0;
  seen : 0 < l.low + (l.block.count - l.high) → raised l.meter.nodes 1 ≤ l.counts.nodes;
  rises : l.meter.nodes ≤ l.counts.nodes;
  bytes : l.counts.bytes ≡ l.meter.bytes;
  probes :
      (p : ℕ) × (p ≤ 26) × (2 ^ p * (l.high - l.low) ≤ l.block.count) × (l.counts.nodes ≤ l.meter.nodes + p);
}

abbrev pub decreases-loop-low : goal.decreases-loop-low
decreases-loop-low l = l.high - l.low
