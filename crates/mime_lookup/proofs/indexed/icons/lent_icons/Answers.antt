use Rattle.std.proofs.Common.{arith}
use Rattle.mime_lookup.proofs.indexed.icons.lent_icons.Goals as goal

pub push_reserved-requires : goal.push_reserved-requires
push_reserved-requires c =
    omega (arith, c.loop-icon.invariant.long, c.loop-icon.invariant.room, c.loop-icon-test.true, c.loop-icon.lent.ok.0)
