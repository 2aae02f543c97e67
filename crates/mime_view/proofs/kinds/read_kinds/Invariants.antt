use Rattle.std.proofs.Common.{◌≡◌, ◌+◌, ◌*◌, ◌≤◌, map, take}
use Rattle.mime_view.specs.Texts.{AreTexts}
use Rattle.mime_view.proofs.kinds.read_kinds.Given as goal

abbrev pub invariant-loop-place : goal.invariant-loop-place
invariant-loop-place l = record {
  are : AreTexts l.counted (take l.place-index l.places) (map (λ text. text.now) l.texts.items);
  nodes : l.meter.nodes ≡ l.fn.meter.nodes;
  bytes_rise : l.fn.meter.bytes ≤ l.meter.bytes;
  bytes : l.meter.bytes ≤ l.fn.meter.bytes + 256 * l.place-index;
}
