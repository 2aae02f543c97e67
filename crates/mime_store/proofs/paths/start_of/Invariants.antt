use Rattle.std.proofs.Common.{◌≡◌, ◌<◌, ◌≤◌, ℕ, get_or, length}
use Rattle.mime_base.specs.Format.Stored.{reversed_ending}
use Rattle.mime_store.proofs.paths.start_of.Given as goal

-- the bytes so far are those of the path, and all others zero
abbrev pub invariant-loop-depth : goal.invariant-loop-depth
invariant-loop-depth l = record {
  long : length l.bytes ≡ 8;
  small : (k : ℕ) → get_or l.bytes k 0 < 256;
  below : (k : ℕ) → k < l.depth → get_or l.bytes k 0 ≡ get_or (reversed_ending l.rule) k 0;
  above : (k : ℕ) → l.depth ≤ k → get_or l.bytes k 0 ≡ 0;
}
