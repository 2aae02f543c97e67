-- Where nothing was kept and nothing is discarded, all items are kept.
use Rattle.std.proofs.Common.{◌∙◌, ◌++◌, sym, ap₂, refl}
use Rattle.mime_text.proofs.Merges.Filters.{filter-all}
use Rattle.mime_text.specs.Merging.{without}
use Rattle.mime_text.proofs.merging.kept.Kept.keep.Goals as goal

pub returns-then-is_new-clause-items : goal.returns-then-is_new-clause-items
returns-then-is_new-clause-items g c =
    sym (ap₂ (λ kept kinds. kept ++ without g.T.Kinded.kind_of kinds c.args.items.items)
    (c.is_new.ensures.items c.if-is_new.true) (c.is_new.ensures.deleted c.if-is_new.true)
    ∙ filter-all _ (λ item. refl) c.args.items.items)
