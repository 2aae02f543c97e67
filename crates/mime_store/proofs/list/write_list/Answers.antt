use Rattle.std.proofs.Common.{arith, map, length, ap}
use Rattle.std.proofs.lemmas.List.{length-map}
use Rattle.mime_store.proofs.ListLemmas.Gather.{gather_end, rows_room}
use Rattle.mime_store.proofs.BytesLemmas.Records.{members_fit, parts_within}
use Rattle.mime_store.proofs.BytesLemmas.Written.{grew_length, grew_on, grew_to}
use Rattle.mime_store.proofs.list.write_list.Goals as goal

pub gather-requires-clause-fits : goal.gather-requires-clause-fits
gather-requires-clause-fits g c =
    omega (arith, c.requires.room, parts_within g.row.N g.T.Entry.room (map g.T.Entry.plain c.args.members.now))

pub append_list-requires-clause-room : goal.append_list-requires-clause-room
append_list-requires-clause-room g c =
    omega (
      arith,
      c.requires.room,
      grew_length _ _ _ c.in_ok-records.ensures.grew,
      rows_room g.T.Entry.IsRecord g.row.N g.T.Entry.room _ _ _ c.in_ok-records.ensures.gathered,
      ap length c.as_slice.ensures,
    )

pub append_list-requires-clause-begun : goal.append_list-requires-clause-begun
append_list-requires-clause-begun g c = omega (arith, c.requires.begun, grew_length _ _ _ c.in_ok-records.ensures.grew)

pub returns-clause-grew : goal.returns-clause-grew
returns-clause-grew g c =
    grew_to _ _ _ _
    (omega (arith, rows_room g.T.Entry.IsRecord g.row.N g.T.Entry.room _ _ _ c.in_ok-records.ensures.gathered, ap length c.as_slice.ensures))
    (grew_on _ _ _ _ _ c.in_ok-records.ensures.grew c.in_ok-at.ensures.grew)

pub returns-clause-stands : goal.returns-clause-stands
returns-clause-stands g c =
    record {
      count = rw (length-map c.args.members.now g.T.Entry.plain) c.in_ok-at.ensures.count;
      records = gather_end g.T.Entry.IsRecord g.row.N _ _ _ _ _
          (map g.T.Entry.plain c.args.members.now) c.in_ok-at.ensures.grew c.in_ok-records.ensures.gathered
          (rw (← c.as_slice.ensures) c.in_ok-at.ensures.numbers);
    }

pub overflow_cast-members : goal.overflow_cast-members
overflow_cast-members g c =
    omega (
      arith,
      c.requires.room,
      length-map c.args.members.now g.T.Entry.plain,
      members_fit g.row.N g.T.Entry.room g.met.T.Entry.some (map g.T.Entry.plain c.args.members.now),
    )
