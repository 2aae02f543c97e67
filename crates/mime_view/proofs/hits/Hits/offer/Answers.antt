use Rattle.mime_view.proofs.HitsLemmas.AddedHits.{takes_after}
use Rattle.mime_view.proofs.HitsLemmas.Gathering.{offers_best, offers_every}
use Rattle.mime_view.proofs.hits.Hits.offer.Goals as goal
use Rattle.mime_view.proofs.hits.Hits.offer.Goals.{in-Best+in_ok-offer-in-Best, in-Every+in_ok-push-in-Every}

pub returns-clause-offered : goal.returns-clause-offered
returns-clause-offered c = λ cache rule ranked text.
    elim c.match-self.branch [
      | in-Best+in_ok-offer-in-Best w ↦ rw (w.self-inside-is, ← c.self.view_is, w.in-Best.is)
          (offers_best cache rule c.args.rank c.args.kind ranked text w.in-Best.hits w.offer.new.self w.in_ok-offer-in-Best.ensures.kept)
      | in-Every+in_ok-push-in-Every w ↦ rw (w.self-inside-is, ← c.self.view_is, w.in-Every.is, w.in_ok-push-in-Every.ensures.ok)
          (offers_every cache rule c.args.rank c.args.kind ranked text w.in-Every.hits.items)
    ]

pub returns-clause-takes : goal.returns-clause-takes
returns-clause-takes c =
    elim c.match-self.branch [
      | in-Best+in_ok-offer-in-Best w ↦ rw (w.self-inside-is, ← c.self.view_is, w.in-Best.is) w.in_ok-offer-in-Best.ensures.takes
      | in-Every+in_ok-push-in-Every w ↦ rw (w.self-inside-is, ← c.self.view_is, w.in-Every.is, w.in_ok-push-in-Every.ensures.ok)
          (takes_after c.args.kind c.args.rank w.in-Every.hits.items)
    ]
