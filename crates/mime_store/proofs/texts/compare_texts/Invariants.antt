use Rattle.std.proofs.Common.{◌≡◌, ◌≤◌, ◌-◌, drop}
use Rattle.std.specs.Cmp.Lexicographic.{slice_cmp}
use Rattle.std.specs.Ordering.{nat_cmp}
use Rattle.mime_store.proofs.texts.compare_texts.Given as goal

-- what is left of the texts is ordered as they are
abbrev pub invariant-loop-at : goal.invariant-loop-at
invariant-loop-at l = record {
  within : l.at ≤ l.room;
  order : slice_cmp nat_cmp (drop l.at l.left) (drop l.at l.right) ≡ slice_cmp nat_cmp l.left l.right;
}

abbrev pub decreases-loop-at : goal.decreases-loop-at
decreases-loop-at l = l.room - l.at
