use Rattle.std.proofs.Common.{◌≡◌, ◌+◌, ◌-◌, ◌*◌, ℕ, suc, length, arith, subst, sym, ap, ◌∙◌}
use Rattle.std.proofs.lemmas.Result.{err_from_is_err_and}
use Rattle.mime_base.specs.Format.Magic.{width}
use Rattle.mime_base.specs.Magic.{PlainLine, bare, line}
use Rattle.mime_load.specs.MagicStanding.{ForestStands, plain_own}
use Rattle.mime_load.specs.Taking.{HasRoomForLines}
use Rattle.mime_load.proofs.AddedLines.{adds_childless, adds_line, adds_more, length-added, pushed_entry}
use Rattle.mime_load.proofs.LinesRead.{next_line, no_levels}
use Rattle.mime_load.proofs.SameLemmas.{opened, same_line}
use Rattle.mime_load.proofs.TakingLemmas.{wide_then}
use Rattle.mime_load.proofs.lines.+lines.Goals as goal

pub push_line-set_below-requires : goal.push_line-set_below-requires
push_line-set_below-requires t c =
    let more = length-added _ _ _ _ _ _ _ _ c.in_ok-push_lines.ensures.adds in
    omega (arith, more, c.in_ok-push.ensures.len, c.len-place.ensures)

pub push_line-returns-then-own-eq0-clause-adds : goal.push_line-returns-then-own-eq0-clause-adds
push_line-returns-then-own-eq0-clause-adds t c =
    adds_childless c.args.source.now.counted.now c.args.at c.args.levels (plain_own c.in_ok-own.own) c.in_ok-own.own.count
    c.in_ok-own.own.first c.args.lines.now.items c.push.new.self.items c.args.taking.now c.own_at.new.taking c.requires.some
    c.in_ok-own.ensures.stands c.if-own-eq0.true
    (pushed_entry _ _ c.line_of.result _ c.in_ok-push.ensures.items c.line_of.ensures)
    c.in_ok-own.ensures.taken.0 c.in_ok-own.ensures.taken.1

pub push_line-returns-clause-adds : goal.push_line-returns-clause-adds
push_line-returns-clause-adds t c =
    adds_line c.args.source.now.counted.now c.args.at c.args.levels (c.args.levels - 1) c.len-place.result (plain_own c.in_ok-own.own)
    c.in_ok-own.own.count c.in_ok-own.own.first c.args.lines.now.items c.push.new.self.items c.push_lines.new.lines.items
    c.set_below.new.lines.items c.args.taking.now c.own_at.new.taking c.push_lines.new.taking (omega (arith, c.requires.some))
    c.in_ok-own.ensures.stands (pushed_entry _ _ c.line_of.result _ c.in_ok-push.ensures.items c.line_of.ensures)
    (omega (arith, c.len-place.ensures, c.args.lines.now.ok.0)) c.in_ok-own.ensures.taken.0 c.in_ok-own.ensures.taken.1
    c.in_ok-push_lines.ensures.adds c.set_below.ensures

pub push_line-returns-in_err-own-clause-need : goal.push_line-returns-in_err-own-clause-need
push_line-returns-in_err-own-clause-need t c = λ own children stands room.
    let cache = c.args.source.now.counted.now in
    let deep : c.args.levels ≡ suc (c.args.levels - 1) = omega (arith, c.requires.some) in
    let o = opened cache c.args.at (c.args.levels - 1) own children bare
    (subst (λ (n : ℕ). ForestStands cache c.args.at n (line own children bare)) deep stands) in
    let p = err_from_is_err_and c.from_residual.result c.from_residual.ensures.1 in
    rw (p.1, p.2) (c.in_err-own.ensures.need own (width children) o.first o.here (omega (arith, room.records)) (omega (arith, room.value_bytes)))

pub push_line-returns-in_err-push_lines-clause-need : goal.push_line-returns-in_err-push_lines-clause-need
push_line-returns-in_err-push_lines-clause-need t c = λ own children stands room.
    let cache = c.args.source.now.counted.now in
    let deep : c.args.levels ≡ suc (c.args.levels - 1) = omega (arith, c.requires.some) in
    let o = opened cache c.args.at (c.args.levels - 1) own children bare
    (subst (λ (n : ℕ). ForestStands cache c.args.at n (line own children bare)) deep stands) in
    let same = same_line cache c.args.at _ own _ _ (width children) o.first c.in_ok-own.ensures.stands o.here in
    let size : length c.in_ok-own.own.value.now ≡ length own.value = ap (λ (l : PlainLine). length l.value) same.line in
    let taken = c.in_ok-own.ensures.taken in
    let p = err_from_is_err_and c.from_residual-in_err-push_lines.result c.from_residual-in_err-push_lines.ensures.1 in
    rw (p.1, p.2) (c.in_err-push_lines.ensures.need children (sym same.count)
    (subst (λ (a : ℕ). ForestStands cache a (c.args.levels - 1) children) (sym same.place) o.deeper)
    (record { records = omega (arith, room.records, taken.0); value_bytes = omega (arith, room.value_bytes, taken.1, size) }))

pub push_lines-loop-i-preserved : goal.push_lines-loop-i-preserved
push_lines-loop-i-preserved t c =
    let before = c.loop-i.invariant in
    record {
      adds = adds_more c.args.source.now.counted.now c.args.first c.args.levels c.loop-i.i (c.from.result + 32 * c.from-in-loop-i.result)
          c.args.lines.now.items c.loop-i.lines.items c.push_line.new.lines.items c.args.taking.now c.loop-i.taking c.push_line.new.taking
          before.adds c.in_ok-push_line.ensures.adds (omega (arith, c.from.ensures, c.from-in-loop-i.ensures));
      wide = wide_then c.args.taking.now c.loop-i.taking c.push_line.new.taking before.wide c.push_line.ensures.wide;
    }

pub push_lines-returns-then-count-ne0-clause-need : goal.push_lines-returns-then-count-ne0-clause-need
push_lines-returns-then-count-ne0-clause-need t c = λ lines wide stands room.
    let cache = c.args.source.now.counted.now in
    let none = no_levels cache c.args.first lines
    (subst (λ (n : ℕ). ForestStands cache c.args.first n lines) c.if-levels-eq0.true stands) in
    absurd (c.if-count-ne0.true (sym wide ∙ none))

pub push_lines-returns-in_err-push_line-clause-need : goal.push_lines-returns-in_err-push_line-clause-need
push_lines-returns-in_err-push_line-clause-need t c = λ lines wide stands room.
    let cache = c.args.source.now.counted.now in
    let before = c.loop-i.invariant.adds in
    let next = next_line cache c.args.first c.args.levels c.loop-i.i (c.from.result + 32 * c.from-in-loop-i.result)
    before.lines lines before.count (omega (arith, wide, c.loop-i-test.true))
    (omega (arith, c.from.ensures, c.from-in-loop-i.ensures)) before.stand stands in
    let left : HasRoomForLines c.loop-i.taking (line next.own next.children bare) = record {
      records = omega (arith, room.records, before.taken.records, next.records);
      value_bytes = omega (arith, room.value_bytes, before.taken.value_bytes, next.value_bytes);
    } in
    let p = err_from_is_err_and c.from_residual.result c.from_residual.ensures.1 in
    rw (p.1, p.2) (c.in_err-push_line.ensures.need next.own next.children next.stands left)
