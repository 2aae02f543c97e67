use Rattle.std.proofs.Common.{◌≡◌, ◌≤◌, length, take}
use Rattle.std.specs.Vec.{vec_capacity}
use Rattle.mime_names.specs.Leading.{kinds_at}
use Rattle.mime_names.proofs.leading.types_at.Given as goal

abbrev pub invariant-loop-place : goal.invariant-loop-place
invariant-loop-place l = record {
  long : length l.kinds.items ≡ l.place-index;
  room : length l.places ≤ vec_capacity l.kinds;
  are : l.kinds.items ≡ kinds_at l.rules (take l.place-index l.places);
}
