use Rattle.std.proofs.Common.{ap, arith}
use Rattle.std.proofs.lemmas.List.{drop_all}
use Rattle.mime_load.proofs.Extents.{forest_extent-lines, greatest_extent, greatest_extent-from}
use Rattle.mime_load.proofs.extent.lines_extent.Goals as goal

pub loop-line-preserved : goal.loop-line-preserved
loop-line-preserved c =
    let next = greatest_extent-from c.args.lines.now c.loop-line.line-index c.line_extent.result _ c.loop-line-test.true c.line_extent.ensures in
    omega (arith, next, c.loop-line.invariant, c.max-greatest.ensures)

pub returns : goal.returns
returns c =
    let none = ap greatest_extent (drop_all c.loop-line.line-index c.args.lines.now c.loop-line-test.false) in
    omega (arith, none, c.loop-line.invariant, forest_extent-lines c.args.lines.now)
