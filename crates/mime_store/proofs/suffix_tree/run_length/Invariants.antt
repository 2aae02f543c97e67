use Rattle.std.proofs.Common.{◌≡◌, map, take}
use Rattle.mime_store.specs.SuffixTree.{StartAll, ending_entry}
use Rattle.mime_store.proofs.suffix_tree.run_length.Given as goal

abbrev pub invariant-loop-ending : goal.invariant-loop-ending
invariant-loop-ending l = record {
  place : l.count ≡ l.ending-index;
  all : StartAll l.byte (map (ending_entry l.depth) (take l.ending-index l.endings));
}
