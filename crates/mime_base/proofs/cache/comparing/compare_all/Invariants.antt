use Rattle.std.proofs.Common.{◌≡◌, ◌+◌, drop}
use Rattle.std.specs.Ordering.{nat_cmp}
use Rattle.std.specs.Cmp.Lexicographic.{slice_cmp}
use Rattle.mime_base.specs.Cache.Texts.{before_zero, shared}
use Rattle.mime_base.proofs.cache.comparing.compare_all.Given as goal

abbrev pub invariant-loop-i : goal.invariant-loop-i
invariant-loop-i l = record {
  shared : l.i + shared (drop l.i l.front) (drop l.i l.key) ≡ shared l.front l.key;
  order : slice_cmp nat_cmp (before_zero (drop l.i l.front)) (drop l.i l.key)
      ≡ slice_cmp nat_cmp (before_zero l.front) l.key;
}
