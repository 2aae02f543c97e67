use Rattle.std.proofs.Common.{◌≡◌, ◌+◌, ◌*◌, ◌<◌, ◌≤◌, length, drop, bytes_eq}
use Rattle.std.specs.List.{list_all}
use Rattle.mime_lookup.specs.Ancestry.{kinds_of}
use Rattle.mime_lookup.proofs.cached.name_types.are_one_type.Given as goal

abbrev pub invariant-loop-kind : goal.invariant-loop-kind
invariant-loop-kind l = record {
  rest : list_all (bytes_eq l.first.now) (kinds_of l.more)
      ≡ list_all (bytes_eq l.first.now) (kinds_of (drop l.kind-index l.more));
  nodes : l.meter.nodes ≡ l.initial.meter.nodes;
  rises : l.initial.meter.bytes ≤ l.meter.bytes;
  bytes : length l.first.now < 256 → l.meter.bytes ≤ l.initial.meter.bytes + 256 * l.kind-index;
}
