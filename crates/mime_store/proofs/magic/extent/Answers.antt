use Rattle.std.proofs.Common.{arith}
use Rattle.mime_store.proofs.MagicLemmas.Extents.{extent_of-more}
use Rattle.mime_store.proofs.magic.extent.Goals as goal

pub loop-section-preserved : goal.loop-section-preserved
loop-section-preserved c =
    omega (
      arith,
      c.greater-greatest.ensures,
      (rw c.deref.ensures.value at c.extent_of_lines.ensures),
      c.loop-section.invariant,
      extent_of-more c.args.sections.now c.loop-section.section-index c.section-item.result c.loop-section-test.true c.section-item.is,
    )
