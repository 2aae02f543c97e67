use Rattle.std.proofs.Common.{arith, sym, ◌+◌}
use Rattle.mime_store.proofs.SuffixTreeLemmas.EntryRooms.{entries_more, entries_within, last_more}
use Rattle.mime_store.proofs.room.take_tree.Goals as goal

pub loop-ending-preserved : goal.loop-ending-preserved
loop-ending-preserved c =
    let xs = c.args.endings.now in
    let i = c.loop-ending.ending-index in
    record {
      taken = omega (
        arith,
        rw c.loop-ending.invariant.last at c.in_ok-rest.ensures,
        c.loop-ending.invariant.taken,
        entries_more xs i c.ending-item.result c.loop-ending-test.true c.ending-item.is,
      );
      last = sym (last_more xs i c.ending-item.result c.loop-ending-test.true c.ending-item.is);
    }

pub returns-in_err-rest : goal.returns-in_err-rest
returns-in_err-rest c =
    let xs = c.args.endings.now in
    let i = c.loop-ending.ending-index in
    rw c.from_residual.ensures (omega (
      arith,
      rw c.loop-ending.invariant.last at c.in_err-rest.ensures,
      c.loop-ending.invariant.taken,
      entries_more xs i c.ending-item.result c.loop-ending-test.true c.ending-item.is,
      entries_within xs (i + 1),
    ))

pub take_ending-requires : goal.take_ending-requires
take_ending-requires c = omega (arith, c.requires, c.loop-ending.invariant.taken)
