use Rattle.std.proofs.Common.{◌≡◌, ◌+◌, ◌≤◌, List, ℕ, drop, length}
use Rattle.mime_lookup.specs.Places.{placed}
use Rattle.mime_lookup.specs.Ancestry.{NoneLeadsTo, is_among, kinds_of, unmarked}
use Rattle.mime_lookup.specs.Choice.{IsFirst}
use Rattle.mime_lookup.specs.IndexBytes.{search_bytes}
use Rattle.mime_lookup.proofs.ancestry.first_at.Given as goal

abbrev pub invariant-loop-kind : goal.invariant-loop-kind
invariant-loop-kind l = record {
  nodes : l.meter.nodes ≡ l.fn.meter.nodes;
  bytes : l.meter.bytes + search_bytes 0 (unmarked (placed l.both).parents (is_among l.marks.keys)) (length l.base)
      ≤ l.fn.meter.bytes + search_bytes l.kind-index (length (placed l.both).parents) (length l.base);
  settled : NoneLeadsTo (is_among l.marks.keys) (placed l.both) l.base;
  rest : (answer : List ℕ) →
      IsFirst (placed l.both) l.base l.default (kinds_of (drop l.kind-index l.kinds)) answer →
      IsFirst (placed l.both) l.base l.default (kinds_of l.kinds) answer;
}
