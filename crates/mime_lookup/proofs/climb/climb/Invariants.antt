use Rattle.std.proofs.Common.{◌≡◌, ◌↔◌}
use Rattle.mime_base.specs.Database.Subclass.{IsA, Pairs}
use Rattle.mime_lookup.proofs.climb.climb.Given as goal

abbrev pub invariant-loop : goal.invariant-loop
invariant-loop g l = record {
  nodes : l.meter.nodes ≡ l.fn.meter.nodes;
  same : (pairs : Pairs) → g.H.Hierarchy.is_of l.hierarchy pairs → IsA pairs l.kind l.base ↔ IsA pairs l.here l.base;
}
