use Rattle.std.proofs.Common.{arith}
use Rattle.mime_base.specs.declared.magic.matchlet.Matchlet.TheViews.{out-Matchlet}
use Rattle.mime_store.proofs.MagicLemmas.Extents.{extent-more}
use Rattle.mime_store.proofs.MagicLemmas.Lines.{extent_out}
use Rattle.mime_store.proofs.magic.+extents.Goals as goal

pub extent_of_lines-loop-line-preserved : goal.extent_of_lines-loop-line-preserved
extent_of_lines-loop-line-preserved t c =
    omega (
      arith,
      c.greater-greatest.ensures,
      c.extent_of_line.ensures,
      c.loop-line.invariant,
      extent-more c.args.lines.now c.loop-line.line-index c.line-item.result c.loop-line-test.true c.line-item.is,
    )

pub extent_of_line-returns : goal.extent_of_line-returns
extent_of_line-returns t c =
    omega (
      arith,
      c.greater.ensures,
      rw c.deref.ensures.value at c.extent_of_lines.ensures,
      c.from.ensures,
      c.from-2.ensures,
      c.len.ensures,
      (out-Matchlet c.args.line.now).value.ok.0,
      extent_out c.args.line.now,
    )
