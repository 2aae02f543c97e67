use Rattle.std.proofs.Common.{◌≡◌, ℕ, ◌<◌, length, get_or}
use Rattle.mime_lookup.specs.Pairs.{IsPairAt}
use Rattle.mime_lookup.proofs.indexed.other_pairs.pairs_of.Given as goal

abbrev pub invariant-loop-at : goal.invariant-loop-at
invariant-loop-at l = record {
  size : length l.pairs.items ≡ l.at;
  each : (i : ℕ) → i < length l.pairs.items → IsPairAt (get_or l.pairs.items i 0) l.heads (get_or l.others i 0);
}
