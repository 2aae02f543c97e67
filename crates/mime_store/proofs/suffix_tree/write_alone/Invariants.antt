use Rattle.std.proofs.Common.{◌≡◌, ◌≤◌, [], ◌∷◌, length}
use Rattle.mime_store.specs.SuffixTree.{ending_entry, ending_path}
use Rattle.mime_store.proofs.SuffixTreeLemmas.Alone.{Block}
use Rattle.mime_store.proofs.suffix_tree.write_alone.Given as goal

-- the block of what is left of the path at this depth stands
abbrev pub invariant-loop-at : goal.invariant-loop-at
invariant-loop-at l = record {
  within : l.at ≤ length (ending_path l.ending);
  block : Block l.fn.out.items l.out.items l.first (ending_entry l.at l.ending ∷ []);
  ends : l.at ≤ l.depth → ending_entry l.at l.ending ≡ ending_entry l.depth l.ending;
}

abbrev pub decreases-loop-at : goal.decreases-loop-at
decreases-loop-at l = l.at
