use Rattle.std.proofs.Common.{◌∙◌, ap}
use Rattle.std.specs.Prelude.{nat_le}
use Rattle.std.specs.List.{list_all}
use Rattle.mime_base.proofs.KeptLemmas.Offers.{wanted}
use Rattle.mime_view.proofs.best_hits.BestHits.wants.Goals as goal

pub returns : goal.returns
returns c =
    let kept = c.self.inside in
    wanted kept.rank c.args.rank kept.kinds.items c.self.invariant ∙ ap (list_all (λ offer. nat_le offer.0 c.args.rank)) c.self.view_is
