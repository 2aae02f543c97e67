use Rattle.std.proofs.Common.{◌+◌, ◌*◌}
use Rattle.mime_store.proofs.ListLemmas.Loops.{room_short, room_step}
use Rattle.mime_store.proofs.list.take_list.Goals as goal

pub loop-member-preserved : goal.loop-member-preserved
loop-member-preserved g c =
    room_step g.T.Entry.plain (λ x. 4 * g.row.N + g.T.Entry.room x) c.args.members.now c.loop-member.member-index
    c.member-item.result _ _ _ c.loop-member-test.true c.member-item.is c.in_ok-rest.ensures c.loop-member.invariant

pub returns-in_err-rest : goal.returns-in_err-rest
returns-in_err-rest g c =
    rw c.from_residual.ensures
    (room_short g.T.Entry.plain (λ x. 4 * g.row.N + g.T.Entry.room x) c.args.members.now c.loop-member.member-index
    c.member-item.result _ _ c.loop-member-test.true c.member-item.is c.in_err-rest.ensures c.loop-member.invariant)
