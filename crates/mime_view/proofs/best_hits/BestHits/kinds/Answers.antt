use Rattle.std.proofs.Common.{sym, ◌∙◌}
use Rattle.mime_base.proofs.KeptLemmas.Offers.{items-ranked}
use Rattle.mime_view.proofs.HitsLemmas.BestOffers.{best-ranked}
use Rattle.mime_view.proofs.best_hits.BestHits.kinds.Goals as goal

pub returns-clause-places : goal.returns-clause-places
returns-clause-places c = rw (← c.self.view_is) (c.as_slice.ensures ∙ sym (items-ranked c.self.inside.rank c.self.inside.kinds.items))

pub returns-clause-best : goal.returns-clause-best
returns-clause-best c = rw (← c.self.view_is) (best-ranked c.self.inside.rank c.self.inside.kinds.items)
