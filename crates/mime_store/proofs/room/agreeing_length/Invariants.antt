use Rattle.std.proofs.Common.{◌≡◌, ◌+◌, drop, nat_eq}
use Rattle.std.specs.List.{common_prefix_len}
use Rattle.mime_store.specs.SuffixTree.{ending_path}
use Rattle.mime_store.proofs.room.agreeing_length.Given as goal

abbrev pub invariant-loop-depth : goal.invariant-loop-depth
invariant-loop-depth l =
    l.depth + common_prefix_len nat_eq (drop l.depth (ending_path l.left)) (drop l.depth (ending_path l.right))
    ≡ common_prefix_len nat_eq (ending_path l.left) (ending_path l.right)
