use Rattle.std.proofs.Common.{arith, take, ap, ◌+◌}
use Rattle.std.proofs.lemmas.List.{length-take-le}
use Rattle.mime_base.specs.Format.Room.{lines_room}
use Rattle.mime_store.specs.Lines.{matchlet_parts_room}
use Rattle.mime_base.specs.declared.magic.matchlet.Matchlet.TheViews.{out-Matchlet}
use Rattle.mime_base.specs.Magic.{forest_of, plain_matchlet, plain_matchlets}
use Rattle.mime_store.proofs.ListLemmas.Loops.{room_more, room_within}
use Rattle.mime_store.proofs.MagicLemmas.Lines.{room-lines, room_out}
use Rattle.mime_store.proofs.room.+rooms.Goals as goal

pub take_lines-returns-in_err-rest : goal.take_lines-returns-in_err-rest
take_lines-returns-in_err-rest t c =
    let xs = c.args.lines.now in
    let i = c.loop-line.line-index in
    rw c.from_residual.ensures (omega (
      arith,
      c.in_err-rest.ensures,
      room_more plain_matchlet matchlet_parts_room xs i c.line-item.result c.loop-line-test.true c.line-item.is,
      room_within plain_matchlet matchlet_parts_room xs (i + 1),
      room-lines xs,
      room-lines (take i xs),
      length-take-le i xs (omega arith),
    ))

pub take_lines-loop-line-preserved : goal.take_lines-loop-line-preserved
take_lines-loop-line-preserved t c =
    let xs = c.args.lines.now in
    let i = c.loop-line.line-index in
    omega (
      arith,
      c.in_ok-rest.ensures,
      room_more plain_matchlet matchlet_parts_room xs i c.line-item.result c.loop-line-test.true c.line-item.is,
      room-lines (take (i + 1) xs),
      room-lines (take i xs),
      length-take-le i xs (omega arith),
      length-take-le (i + 1) xs (omega arith),
    )

pub take_line-returns-in_err-rest : goal.take_line-returns-in_err-rest
take_line-returns-in_err-rest t c =
    rw c.from_residual-in_err-rest.ensures (omega (
      arith,
      c.in_err-rest.ensures,
      c.in_ok-left-3.ensures,
      c.in_ok-left-2.ensures,
      c.in_ok-left.ensures,
      room_out c.args.line.now,
      ap (λ ls. lines_room (forest_of (plain_matchlets ls))) c.deref.ensures.value,
      c.len.ensures,
      (out-Matchlet c.args.line.now).value.ok.0,
    ))

pub take_line-returns : goal.take_line-returns
take_line-returns t c =
    omega (
      arith,
      c.in_ok-rest.ensures,
      c.in_ok-left-3.ensures,
      c.in_ok-left-2.ensures,
      c.in_ok-left.ensures,
      room_out c.args.line.now,
      ap (λ ls. lines_room (forest_of (plain_matchlets ls))) c.deref.ensures.value,
      c.len.ensures,
      (out-Matchlet c.args.line.now).value.ok.0,
    )
