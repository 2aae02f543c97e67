use Rattle.std.proofs.Common.{length, ◌-◌, ◌+◌, ◌*◌, ◌≤◌, map, drop}
use Rattle.mime_store.specs.SuffixTree.{ending_entry}
use Rattle.mime_store.proofs.SuffixTreeLemmas.SoFar.{Sofar}
use Rattle.mime_store.proofs.suffix_tree.+tree.Given as goal

abbrev pub decreases-write_sibling : goal.decreases-write_sibling
decreases-write_sibling l = 2 * (256 - l.depth)

abbrev pub decreases-write_siblings : goal.decreases-write_siblings
decreases-write_siblings l = 2 * (256 - l.depth) + 1

abbrev pub invariant-write_siblings-loop-at : goal.invariant-write_siblings-loop-at
invariant-write_siblings-loop-at l = record {
  within : l.at ≤ length l.endings;
  sofar : Sofar l.fn.out.items l.out.items l.records.items l.count (map (ending_entry l.depth) l.endings)
      (drop l.at (map (ending_entry l.depth) l.endings));
}

abbrev pub decreases-write_siblings-loop-at : goal.decreases-write_siblings-loop-at
decreases-write_siblings-loop-at l = length l.endings - l.at
