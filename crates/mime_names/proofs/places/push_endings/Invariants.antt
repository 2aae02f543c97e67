use Rattle.std.proofs.Common.{◌≡◌, ◌+◌, ◌*◌, ◌≤◌, ◌<◌, length, drop}
use Rattle.mime_names.specs.Chains.{AddsPlaces, GathersPlaces}
use Rattle.mime_names.specs.Keys.{EndsFrom}
use Rattle.mime_names.specs.Tree.{IsAt, spelled}
use Rattle.mime_names.proofs.places.push_endings.Given as goal

abbrev pub invariant-loop-left : goal.invariant-loop-left
invariant-loop-left l = record {
  steps : l.meter.nodes + length l.fn.found.items + 2 * l.left ≤ l.fn.meter.nodes + length l.found.items + 2 * length l.name + 1;
  bytes : l.meter.bytes ≡ l.fn.meter.bytes;
  within : l.left ≤ length l.name;
  node : l.at < length l.table.tree.starts.items;
  leads : IsAt l.table.tree (drop l.left (spelled l.name)) l.at;
  adds : AddsPlaces (EndsFrom l.table.tree (spelled l.name) l.left) l.table.keys.items l.fn.found.items l.found.items;
  gathered : GathersPlaces (EndsFrom l.table.tree (spelled l.name) l.left) l.table.keys.items l.fn.found.items l.found.items;
}

abbrev pub decreases-loop-left : goal.decreases-loop-left
decreases-loop-left l = l.left
