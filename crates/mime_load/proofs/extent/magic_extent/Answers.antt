use Rattle.std.proofs.Common.{◌+◌, ◌-◌, take, drop, ap, arith}
use Rattle.std.proofs.lemmas.List.{drop_all}
use Rattle.mime_base.specs.Magic.Extent.{forest_extent, sections_extent}
use Rattle.mime_load.specs.Lent.{lent_forest, sections_over}
use Rattle.mime_load.proofs.Extents.{sections_extent-from}
use Rattle.mime_load.proofs.extent.magic_extent.Goals as goal

pub loop-section-preserved : goal.loop-section-preserved
loop-section-preserved c =
    let before = c.loop-section.invariant in
    let from = c.loop-section.from in
    let magic = c.args.magic.now in
    let next = rw c.deref-section-items.ensures.value at
    (sections_extent-from c.deref-section-items.result.now magic.lines.items c.loop-section.section-index from c.min.result _ _
    c.loop-section-test.true c.min.ensures (omega (arith, c.len.ensures, magic.lines.ok.0))) in
    let here = ap (λ ms. forest_extent (lent_forest (take (from + c.min.result - from) (drop from ms)))) c.deref.ensures.value in
    record {
      within = omega (arith, before.within, c.min.ensures, c.len.ensures, magic.lines.ok.0);
      left = omega (arith, before.left, next, here, c.lines_extent.ensures, c.max-greatest.ensures);
    }

pub returns : goal.returns
returns c =
    let magic = c.args.magic.now in
    let rest = drop c.loop-section.from magic.lines.items in
    let none = ap (λ ss. sections_extent (sections_over ss rest))
    (drop_all c.loop-section.section-index magic.sections.items
    (rw c.deref-section-items.ensures.value at c.loop-section-test.false)) in
    omega (arith, none, c.loop-section.invariant.left)
