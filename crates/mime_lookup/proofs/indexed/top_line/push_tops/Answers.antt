use Rattle.std.proofs.Common.{[], ◌∷◌, ◌++◌, take, refl, sym, ap, arith, ◌∙◌}
use Rattle.std.proofs.lemmas.List.{drop_all, map_more}
use Rattle.mime_base.specs.Magic.Extent.{forest_extent}
use Rattle.mime_base.specs.Magic.{forest_of, plain_matchlet, plain_matchlets}
use Rattle.mime_base.proofs.MagicLemmas.Extents.{forest_extent-from}
use Rattle.mime_lookup.specs.TopLines.{lent_matchlet}
use Rattle.mime_lookup.proofs.IndexLemmas.TopLines.{tops_pushed}
use Rattle.mime_lookup.proofs.indexed.top_line.push_tops.Goals as goal

pub loop-line-preserved : goal.loop-line-preserved
loop-line-preserved c =
    let items = c.deref-line-items.result.now in
    let before = plain_matchlets (take c.loop-line.line-index items) in
    let next = forest_extent-from items c.loop-line.line-index c.line-item.result c.loop-line-test.true c.line-item.is in
    record {
      tops =
          tops_pushed lent_matchlet _ _ c.loop-line.tops.items _ _ before _ _ c.loop-line.invariant.tops c.in_ok-push.ensures.items refl
          (map_more plain_matchlet items c.loop-line.line-index c.line-item.result c.loop-line-test.true
          ∙ ap (λ m. before ++ plain_matchlet m ∷ []) (sym c.line-item.is));
      extent = omega (arith, next, c.loop-line.invariant.extent, c.line_extent.ensures, c.max-extent.ensures);
    }

pub returns-clause-extent : goal.returns-clause-extent
returns-clause-extent c =
    omega (
      arith,
      ap (λ ms. forest_extent (forest_of (plain_matchlets ms))) (drop_all c.loop-line.line-index c.deref-line-items.result.now c.loop-line-test.false),
      c.loop-line.invariant.extent,
      ap (λ ms. forest_extent (forest_of (plain_matchlets ms))) c.deref-line-items.ensures.value,
    )
