use Rattle.std.proofs.Common.{◌≡◌, ◌+◌, ◌≤◌, length, drop}
use Rattle.mime_base.specs.Matching.Folding.{compared}
use Rattle.mime_names.proofs.ending.ends_so.Given as goal

abbrev pub invariant-loop-left : goal.invariant-loop-left
invariant-loop-left l = record {
  within : l.left ≤ length l.text;
  nodes : l.meter.nodes ≡ l.fn.meter.nodes;
  bytes : l.meter.bytes ≡ l.fn.meter.bytes;
  same : compared l.cased (drop l.left l.text) ≡ compared l.cased (drop (l.start + l.left) l.name);
}

abbrev pub decreases-loop-left : goal.decreases-loop-left
decreases-loop-left l = l.left
