use Rattle.std.proofs.Common.{arith, ap}
use Rattle.mime_store.specs.SuffixTree.{common, ending_path, path_before}
use Rattle.mime_store.proofs.SuffixTreeLemmas.EntryRooms.{common-is}
use Rattle.mime_store.proofs.room.nodes_of.Goals as goal
use Rattle.mime_store.proofs.room.nodes_of.Goals.{in-Some, in-None}

pub returns-clause-nodes : goal.returns-clause-nodes
returns-clause-nodes c =
    let path = ending_path c.args.ending.now in
    elim c.match-before.branch [
      | in-Some w ↦ omega (
        arith,
        c.length.ensures.length,
        w.shared-is,
        w.agreeing_length-shared.ensures.common,
        common-is (ending_path w.in-Some.before.now) path,
        ap (λ before. common (path_before before) path) w.in-Some.is,
      )
      | in-None w ↦ omega (arith, c.length.ensures.length, w.shared-is, ap (λ before. common (path_before before) path) w.in-None.is)
    ]
