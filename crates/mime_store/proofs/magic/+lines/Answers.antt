use Rattle.std.proofs.Common.{arith, map, length, length-append, sym, ap, ◌∙◌}
use denote.Param.Weighed.{at_most}
use Rattle.mime_base.proofs.magic.matchlet.Matchlet.TheLaws.{the_size}
use Rattle.mime_base.specs.Magic.{plain_matchlet}
use Rattle.mime_base.specs.declared.magic.matchlet.Matchlet.TheViews.{out-Matchlet}
use Rattle.mime_store.specs.Lines.{IsLineRecord, matchlet_parts_room}
use Rattle.mime_store.proofs.ListLemmas.Gather.{gather_all, gather_end, gather_push}
use Rattle.mime_store.proofs.MagicLemmas.Lines.{line_row, lines_from_records, room-lines, room_out}
use Rattle.mime_store.proofs.ListLemmas.Loops.{grew_all, grew_more, next_fits}
use Rattle.mime_store.proofs.BytesLemmas.Written.{grew_length, grew_on, grew_to}
use Rattle.mime_store.proofs.magic.+lines.Goals as goal

pub write_lines-write_parts-requires : goal.write_lines-write_parts-requires
write_lines-write_parts-requires t c =
    let long = grew_length _ _ _ c.loop-line.invariant.grew in
    let all = room-lines c.args.lines.now in
    let deep = at_most the_size c.args.lines.now c.loop-line.line-index c.line-item.result c.loop-line-test.true in
    let item = ap the_size c.line-item.is in (
      omega (arith, deep, item),
      (
        next_fits plain_matchlet matchlet_parts_room c.args.lines.now c.loop-line.line-index c.line-item.result c.args.out.now.items
            _ _ c.loop-line-test.true c.line-item.is c.loop-line.invariant.grew (omega (arith, c.requires.room)),
        omega (arith, long, c.requires.begun),
      ),
    )

pub write_lines-loop-line-preserved : goal.write_lines-loop-line-preserved
write_lines-loop-line-preserved t c =
    record {
      grew = grew_more plain_matchlet matchlet_parts_room c.args.lines.now c.loop-line.line-index c.line-item.result
          c.args.out.now.items _ _ c.loop-line-test.true c.line-item.is c.loop-line.invariant.grew c.in_ok-record.ensures.grew;
      gathered = rw c.in_ok-extend_from_slice.ensures.ok (gather_push plain_matchlet IsLineRecord 8 _ _ _ _ _
          c.args.lines.now _ _ c.loop-line-test.true c.line-item.is c.in_ok-record.ensures.grew
          c.loop-line.invariant.gathered c.in_ok-record.ensures.row);
      count = omega (
        arith,
        ap length c.in_ok-extend_from_slice.ensures.ok,
        length-append c.loop-line.records.items c.in_ok-record.record,
        c.in_ok-record.ensures.row.long,
        c.loop-line.invariant.count,
      );
    }

pub write_lines-append_numbers-requires-clause-room : goal.write_lines-append_numbers-requires-clause-room
write_lines-append_numbers-requires-clause-room t c =
    let g = grew_all plain_matchlet matchlet_parts_room c.args.lines.now c.loop-line.line-index
    c.args.out.now.items _ c.loop-line-test.false c.loop-line.invariant.grew in
    omega (arith, grew_length _ _ _ g, room-lines c.args.lines.now, ap length c.as_slice.ensures, c.requires.room, c.loop-line.invariant.count)

pub write_lines-append_numbers-requires-clause-begun : goal.write_lines-append_numbers-requires-clause-begun
write_lines-append_numbers-requires-clause-begun t c =
    omega (arith, c.requires.begun, grew_length _ _ _ c.loop-line.invariant.grew)

pub write_lines-returns-clause-grew : goal.write_lines-returns-clause-grew
write_lines-returns-clause-grew t c =
    let g = grew_all plain_matchlet matchlet_parts_room c.args.lines.now c.loop-line.line-index
    c.args.out.now.items _ c.loop-line-test.false c.loop-line.invariant.grew in
    grew_to _ _ _ _ (omega (arith, room-lines c.args.lines.now, ap length c.as_slice.ensures, c.loop-line.invariant.count))
    (grew_on _ _ _ _ _ g c.in_ok-at.ensures.grew)

pub write_lines-returns-clause-stand : goal.write_lines-returns-clause-stand
write_lines-returns-clause-stand t c =
    lines_from_records _ _ (map plain_matchlet c.args.lines.now)
    (gather_end IsLineRecord 8 _ _ c.loop-line.out.items _ _ (map plain_matchlet c.args.lines.now)
    c.in_ok-at.ensures.grew
    (gather_all plain_matchlet IsLineRecord 8 _ _ c.args.lines.now _ c.loop-line-test.false c.loop-line.invariant.gathered)
    (rw (← c.as_slice.ensures) c.in_ok-at.ensures.stand))

pub write_parts-overflow_cast-count : goal.write_parts-overflow_cast-count
write_parts-overflow_cast-count t c =
    omega (
      arith,
      c.requires.room,
      c.len-count.ensures,
      (out-Matchlet c.args.line.now).children.ok.0,
      room_out c.args.line.now,
      room-lines (out-Matchlet c.args.line.now).children.items,
    )

pub write_parts-returns-clause-grew : goal.write_parts-returns-clause-grew
write_parts-returns-clause-grew t c =
    grew_to _ _ _ _ (sym (room_out c.args.line.now))
    (grew_on _ _ _ _ _
    (grew_on _ _ _ _ _ (rw c.deref.ensures.value at c.in_ok-value.ensures.grew) c.in_ok-mask.ensures.grew)
    (rw c.deref-2.ensures.value at c.in_ok-first.ensures.grew))

pub write_parts-returns-clause-row : goal.write_parts-returns-clause-row
write_parts-returns-clause-row t c =
    line_row c.args.out.now.items c.append_value.new.out.items c.write_mask.new.out.items _ c.args.line.now _ _ _ _ _ _ _
    (c.len-length.ensures ∙ (out-Matchlet c.args.line.now).value.ok.0)
    (c.len-count.ensures ∙ (out-Matchlet c.args.line.now).children.ok.0)
    (rw c.deref.ensures.value at c.in_ok-value.ensures.stands) c.in_ok-mask.ensures.grew c.in_ok-mask.ensures.stands
    (rw c.deref-2.ensures.value at c.in_ok-first.ensures.grew) (rw c.deref-2.ensures.value at c.in_ok-first.ensures.stand)
