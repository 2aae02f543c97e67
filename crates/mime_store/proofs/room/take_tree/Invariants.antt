use Rattle.std.proofs.Common.{◌≡◌, ◌+◌, [], map, take}
use Rattle.mime_store.specs.SuffixTree.{ending_entry, entries_room, path_before}
use Rattle.mime_store.proofs.SuffixTreeLemmas.Paths.{last_path}
use Rattle.mime_store.proofs.room.take_tree.Given as goal

abbrev pub invariant-loop-ending : goal.invariant-loop-ending
invariant-loop-ending l = record {
  taken : l.rest + entries_room (map (ending_entry 0) (take l.ending-index l.endings)) ≡ l.left;
  last : path_before l.before ≡ last_path [] (map (ending_entry 0) (take l.ending-index l.endings));
}
