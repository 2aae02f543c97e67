use Rattle.std.proofs.Common.{◌≡◌, ℕ, ◌≤◌, List, drop, length}
use Rattle.mime_load.specs.Lent.{plain_pairs}
use Rattle.mime_lookup.specs.NameMap.{IsNameMap}
use Rattle.mime_lookup.specs.Named.{named_in}
use Rattle.mime_view.specs.Pairs.{looked_up}
use Rattle.mime_lookup.proofs.read_back.targets.targets_by_name.Given as goal

abbrev pub invariant-loop-place : goal.invariant-loop-place
invariant-loop-place l = record {
  within : l.place ≤ length l.pairs;
  valid : IsNameMap l.targets;
  so_far : (name : List ℕ) → looked_up (plain_pairs (drop l.place l.pairs)) name ≡ named_in l.targets name;
}

abbrev pub decreases-loop-place : goal.decreases-loop-place
decreases-loop-place l = l.place
