use Rattle.std.proofs.Common.{◌≡◌, ap, arith, sym, ◌∙◌, vec_len}
use Rattle.std.proofs.lemmas.Bool.{eqb-true}
use Rattle.std.proofs.lemmas.List.{drop_all}
use Rattle.mime_base.specs.Magic.Extent.{forest_extent}
use Rattle.mime_base.specs.Magic.{forest_of, plain_matchlets}
use Rattle.mime_base.specs.declared.magic.matchlet.Matchlet.TheViews.{out-Matchlet}
use Rattle.mime_base.proofs.MagicLemmas.Extents.{forest_extent-childless, forest_extent-from}
use Rattle.mime_base.proofs.MagicLemmas.HoldingMatchlets.{plain_matchlet-out}
use Rattle.mime_base.proofs.magic.extent.+extent.Goals as goal

pub lines_extent-loop-line-preserved : goal.lines_extent-loop-line-preserved
lines_extent-loop-line-preserved t c =
    let next = forest_extent-from c.args.lines.now c.loop-line.line-index c.line-item.result c.loop-line-test.true c.line-item.is in
    omega (arith, next, c.loop-line.invariant, c.line_extent.ensures, c.max-greatest.ensures)

pub lines_extent-returns : goal.lines_extent-returns
lines_extent-returns t c =
    let none = ap (λ ms. forest_extent (forest_of (plain_matchlets ms)))
    (drop_all c.loop-line.line-index c.args.lines.now c.loop-line-test.false) in
    omega (arith, none, c.loop-line.invariant)

pub line_extent-returns-then-is_empty : goal.line_extent-returns-then-is_empty
line_extent-returns-then-is_empty t c =
    let m = out-Matchlet c.args.line.now in
    let none : vec_len m.children ≡ 0 = eqb-true (vec_len m.children) 0 (sym c.is_empty.ensures ∙ c.if-is_empty.true) in
    let childless = forest_extent-childless m.children.items (omega (arith, none, m.children.ok.0)) in
    rw (plain_matchlet-out c.args.line.now) (omega (arith, m.value.ok.0, childless))

pub line_extent-returns : goal.line_extent-returns
line_extent-returns t c =
    rw (plain_matchlet-out c.args.line.now)
    (omega (
      arith,
      c.max.ensures,
      c.lines_extent.ensures,
      (out-Matchlet c.args.line.now).value.ok.0,
      ap (λ ms. forest_extent (forest_of (plain_matchlets ms))) c.deref.ensures.value,
    ))
