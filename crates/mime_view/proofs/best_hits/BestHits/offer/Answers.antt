use Rattle.std.proofs.Common.{arith, ◌∙◌, sym}
use Rattle.mime_base.proofs.KeptLemmas.Offers.{offer-less, offer-same, offer-more}
use Rattle.mime_view.proofs.HitsLemmas.AddedHits.{takes_alone, takes_ranked}
use Rattle.mime_view.proofs.best_hits.BestHits.offer.Goals as goal
use Rattle.mime_view.proofs.best_hits.BestHits.offer.Goals.{then-rank-self-2, else-rank-self-2}

pub returns-then-rank-self-clause-kept : goal.returns-then-rank-self-clause-kept
returns-then-rank-self-clause-kept c = λ offers kept.
    let old = c.self.inside in
    sym c.self.view_is
    ∙ offer-less old.rank old.kinds.items c.self.invariant offers (c.self.view_is ∙ kept) c.args.rank c.args.kind c.if-rank-self.true

pub returns-clause-kept : goal.returns-clause-kept
returns-clause-kept c = λ offers kept.
    let old = c.self.inside in
    elim c.if-rank-self-2.branch [
      | then-rank-self-2 w ↦ rw (c.in_ok-push.ensures.ok, w.self-inside-is, w.clear.ensures.items)
          (offer-more old.rank old.kinds.items c.self.invariant offers (c.self.view_is ∙ kept) c.args.rank c.args.kind
          w.if-rank-self-2.true)
      | else-rank-self-2 w ↦ rw (c.in_ok-push.ensures.ok, w.self-inside-is)
          (offer-same old.rank old.kinds.items c.self.invariant offers (c.self.view_is ∙ kept) c.args.rank c.args.kind (omega arith))
    ]

pub returns-clause-takes : goal.returns-clause-takes
returns-clause-takes c =
    let old = c.self.inside in
    elim c.if-rank-self-2.branch [
      | then-rank-self-2 w ↦ rw (c.in_ok-push.ensures.ok, w.self-inside-is, w.clear.ensures.items)
          (takes_alone c.args.kind c.args.rank c.args.self.now)
      | else-rank-self-2 w ↦ rw (← c.self.view_is, c.in_ok-push.ensures.ok, w.self-inside-is)
          (takes_ranked c.args.kind old.rank c.args.rank old.kinds.items)
    ]
