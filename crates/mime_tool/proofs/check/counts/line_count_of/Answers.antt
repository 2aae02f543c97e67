use Rattle.std.proofs.Common.{drop, ap, arith}
use Rattle.std.proofs.lemmas.List.{drop_all}
use Rattle.mime_base.specs.Format.Packed.{matchlet_count}
use Rattle.mime_load.specs.Lent.{sections_over}
use Rattle.mime_tool.proofs.CheckLemmas.LineCounts.{matchlet_count-from}
use Rattle.mime_tool.proofs.check.counts.line_count_of.Goals as goal

pub loop-section-preserved : goal.loop-section-preserved
loop-section-preserved c =
    let before = c.loop-section.invariant in
    let magic = c.args.magic.now in
    let next = rw c.deref-section-items.ensures.value at
    (matchlet_count-from c.deref-section-items.result.now magic.lines.items c.loop-section.section-index c.loop-section.count c.min-count.result _ _
    c.loop-section-test.true c.min-count.ensures (omega (arith, c.len.ensures, magic.lines.ok.0))) in
    record {
      within = omega (arith, before.within, c.min-count.ensures, c.len.ensures, magic.lines.ok.0);
      left = omega (arith, before.left, next);
    }

pub returns : goal.returns
returns c =
    let magic = c.args.magic.now in
    let rest = drop c.loop-section.count magic.lines.items in
    let none = ap (λ ss. matchlet_count (sections_over ss rest))
    (drop_all c.loop-section.section-index magic.sections.items
    (rw c.deref-section-items.ensures.value at c.loop-section-test.false)) in
    omega (arith, none, c.loop-section.invariant.left)
