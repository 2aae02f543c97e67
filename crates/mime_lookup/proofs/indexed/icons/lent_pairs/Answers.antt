use Rattle.std.proofs.Common.{arith}
use Rattle.mime_lookup.proofs.indexed.icons.lent_pairs.Goals as goal

pub push_reserved-requires : goal.push_reserved-requires
push_reserved-requires c =
    omega (arith, c.loop-pair.invariant.long, c.loop-pair.invariant.room, c.loop-pair-test.true, c.loop-pair.lent.ok.0)
