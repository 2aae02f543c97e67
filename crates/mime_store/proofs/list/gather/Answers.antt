use Rattle.std.proofs.Common.{arith, ◌*◌, ◌<◌}
use Rattle.mime_store.proofs.ListLemmas.Gather.{gather_all, gather_push}
use Rattle.mime_store.proofs.ListLemmas.Loops.{grew_all, grew_more, next_fits}
use Rattle.mime_store.proofs.BytesLemmas.Written.{grew_length}
use Rattle.mime_store.proofs.list.gather.Goals as goal

pub write-requires : goal.write-requires
write-requires g c =
    let narrow : g.row.N * 4 < 9223372036854775808 = omega (arith, g.met.T.Entry.few) in (
      narrow,
      (
        next_fits g.T.Entry.plain g.T.Entry.room c.args.members.now c.loop-member.member-index c.member-item.result
            c.args.out.now.items _ _ c.loop-member-test.true c.member-item.is c.loop-member.invariant.grew c.requires.fits,
        omega (arith, c.requires.begun, grew_length _ _ _ c.loop-member.invariant.grew),
      ),
    )

pub shared_whole_as_slice-extend_from_slice : goal.shared_whole_as_slice-extend_from_slice
shared_whole_as_slice-extend_from_slice g c = omega (arith, g.met.T.Entry.few)

pub loop-member-preserved : goal.loop-member-preserved
loop-member-preserved g c =
    record {
      grew = grew_more g.T.Entry.plain g.T.Entry.room c.args.members.now c.loop-member.member-index c.member-item.result
          c.args.out.now.items _ _ c.loop-member-test.true c.member-item.is c.loop-member.invariant.grew c.in_ok-record.ensures.grew;
      gathered = rw c.in_ok-extend_from_slice.ensures.ok (gather_push g.T.Entry.plain g.T.Entry.IsRecord g.row.N
          _ _ _ _ _ c.args.members.now _ _ c.loop-member-test.true c.member-item.is c.in_ok-record.ensures.grew
          c.loop-member.invariant.gathered c.in_ok-record.ensures.row);
    }

pub returns-clause-grew : goal.returns-clause-grew
returns-clause-grew g c =
    grew_all g.T.Entry.plain g.T.Entry.room c.args.members.now c.loop-member.member-index c.args.out.now.items _
    c.loop-member-test.false c.loop-member.invariant.grew

pub returns-clause-gathered : goal.returns-clause-gathered
returns-clause-gathered g c =
    gather_all g.T.Entry.plain g.T.Entry.IsRecord g.row.N _ _ c.args.members.now c.loop-member.member-index
    c.loop-member-test.false c.loop-member.invariant.gathered
