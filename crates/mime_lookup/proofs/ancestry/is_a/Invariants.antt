use Rattle.std.proofs.Common.{◌≡◌, ◌+◌, ◌≤◌, length}
use Rattle.mime_lookup.specs.Places.{placed}
use Rattle.mime_lookup.specs.Ancestry.{NoneLeadsTo, is_among, unmarked}
use Rattle.mime_lookup.specs.IndexBytes.{search_bytes}
use Rattle.mime_lookup.proofs.AncestryLemmas.Searches.{Searched}
use Rattle.mime_lookup.proofs.ancestry.is_a.Given as goal

abbrev pub invariant-loop-here : goal.invariant-loop-here
invariant-loop-here l = record {
  nodes : l.meter.nodes ≡ l.initial.meter.nodes;
  bytes : l.meter.bytes + search_bytes (length l.queue) (unmarked (placed l.both).parents (is_among l.marks.keys)) (length l.base)
      ≤ l.initial.meter.bytes + search_bytes 1 (unmarked (placed l.both).parents (is_among l.initial.marks.keys)) (length l.base);
  searched : NoneLeadsTo (is_among l.initial.marks.keys) (placed l.both) l.base →
      Searched (placed l.both) l.base l.kind (is_among l.marks.keys) l.queue;
}

abbrev pub decreases-loop-here : goal.decreases-loop-here
decreases-loop-here l = length l.queue + unmarked (placed l.both).parents (is_among l.marks.keys)
