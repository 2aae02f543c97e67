use Rattle.std.proofs.Common.{ℕ, ◌≤◌, List, drop, length, map}
use Rattle.mime_base.specs.Database.Subclass.{parents}
use Rattle.mime_load.specs.Lent.{plain_pairs}
use Rattle.mime_lookup.specs.NameMap.{IsNameMap}
use Rattle.mime_lookup.specs.PairsReadBack.{step_in}
use Rattle.mime_lookup.specs.Places.{IsAbove}
use Rattle.mime_lookup.specs.ReadBack.{target_in}
use Rattle.mime_lookup.proofs.read_back.steps.steps_of.Given as goal

abbrev pub invariant-loop-place : goal.invariant-loop-place
invariant-loop-place l = record {
  within : l.place ≤ length l.parents;
  valid : IsNameMap l.steps;
  so_far : (kind : List ℕ) → IsAbove (map (target_in l.targets) (parents (plain_pairs (drop l.place l.parents)) kind)) (step_in l.steps kind);
}

abbrev pub decreases-loop-place : goal.decreases-loop-place
decreases-loop-place l = l.place
