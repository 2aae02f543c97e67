use Rattle.std.proofs.Common.{◌≡◌, ◌+◌, ◌-◌, ◌≤◌, length, drop}
use Rattle.std.specs.Ordering.{nat_cmp}
use Rattle.std.specs.Cmp.Lexicographic.{slice_cmp}
use Rattle.mime_base.specs.Cache.Texts.{before_zero, shared}
use Rattle.mime_base.proofs.cache.comparing.shared_by_sixteen.Given as goal

abbrev pub invariant-loop-start : goal.invariant-loop-start
invariant-loop-start l = record {
  same : l.start + shared (drop l.start l.front) (drop l.start l.key) ≡ shared l.front l.key;
  order : slice_cmp nat_cmp (before_zero (drop l.start l.front)) (drop l.start l.key) ≡ slice_cmp nat_cmp (before_zero l.front) l.key;
  front : l.start ≤ length l.front;
  key : l.start ≤ length l.key;
}

abbrev pub decreases-loop-start : goal.decreases-loop-start
decreases-loop-start l = length l.front - l.start
