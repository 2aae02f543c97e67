use Rattle.std.proofs.Common.{◌≡◌, map, take, length}
use Rattle.mime_text.specs.Merging.Buckets.{AreCounts}
use Rattle.mime_text.proofs.merging.first.counts_of.Given as goal

-- the counts are those of the keys so far
abbrev pub invariant-loop-entry : goal.invariant-loop-entry
invariant-loop-entry g l = record {
  long : length l.counts.items ≡ l.size;
  counts : AreCounts l.counts.items (map g.K.Key.key_of (take l.entry-index l.entries));
}
