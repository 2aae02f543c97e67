use Rattle.std.proofs.Common.{◌+◌, ◌≤◌, length}
use Rattle.std.specs.Vec.{vec_capacity, vec_len}
use Rattle.mime_lookup.specs.NameMap.{IsNameMap, value_in}
use Rattle.mime_lookup.specs.Places.{IsIndexed}
use Rattle.mime_lookup.proofs.places.places_of.Given as goal

abbrev pub invariant-loop-place : goal.invariant-loop-place
invariant-loop-place l = record {
  within : l.place ≤ length l.pairs;
  valid : IsNameMap l.first;
  so_far : IsIndexed l.pairs l.place (value_in l.first) l.next.items;
  room : vec_len l.next + l.place ≤ vec_capacity l.next;
}

abbrev pub decreases-loop-place : goal.decreases-loop-place
decreases-loop-place l = l.place
