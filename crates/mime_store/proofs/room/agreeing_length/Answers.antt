use Rattle.std.proofs.Common.{nat_eq, drop, length-drop, arith}
use Rattle.std.proofs.lemmas.List.Sums.{common_prefix_len-le}
use Rattle.mime_store.specs.SuffixTree.{ending_path}
use Rattle.mime_store.proofs.room.agreeing_length.Goals as goal

pub returns-clause-common : goal.returns-clause-common
returns-clause-common c =
    let path = ending_path c.args.left.now in
    let other = ending_path c.args.right.now in
    let depth = c.loop-depth.depth in
    let rest = common_prefix_len-le nat_eq (drop depth path) (drop depth other) in
    omega (
      arith,
      length-drop depth path,
      length-drop depth other,
      c.length.ensures.length,
      c.length-2.ensures.length,
      c.min-room.ensures,
      c.loop-depth.auto.depth-end,
      c.loop-depth.invariant,
    )
