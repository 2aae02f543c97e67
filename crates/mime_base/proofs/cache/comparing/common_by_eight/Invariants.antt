use Rattle.std.proofs.Common.{◌≡◌, ◌+◌, ◌-◌, ◌≤◌, length, drop, nat_eq}
use Rattle.std.specs.List.{common_prefix_len}
use Rattle.mime_base.proofs.cache.comparing.common_by_eight.Given as goal

abbrev pub invariant-loop-start : goal.invariant-loop-start
invariant-loop-start l = record {
  same : l.start + common_prefix_len nat_eq (drop l.start l.left) (drop l.start l.right) ≡ common_prefix_len nat_eq l.left l.right;
  left : l.start ≤ length l.left;
  right : l.start ≤ length l.right;
}

abbrev pub decreases-loop-start : goal.decreases-loop-start
decreases-loop-start l = length l.left - l.start
