use Rattle.std.proofs.Common.{arith, ◌∙◌, sym}
use Rattle.mime_base.proofs.KeptLemmas.Offers.{offer-less, offer-same, offer-more}
use Rattle.mime_base.proofs.kept.Best.offer.Goals as goal
use Rattle.mime_base.proofs.kept.Best.offer.Goals.{then-rank-self-2, else-rank-self-2}

pub returns-then-rank-self-clause-kept : goal.returns-then-rank-self-clause-kept
returns-then-rank-self-clause-kept g c = λ offers kept.
    let old = c.self.inside in
    sym c.self.view_is
    ∙ offer-less old.rank old.items.items c.self.invariant offers (c.self.view_is ∙ kept) c.args.rank c.args.item c.if-rank-self.true

pub returns-clause-kept : goal.returns-clause-kept
returns-clause-kept g c = λ offers kept.
    let old = c.self.inside in
    elim c.if-rank-self-2.branch [
      | then-rank-self-2 w ↦ rw (c.in_ok-push.ensures.items, w.self-inside-is, w.clear.ensures.items)
          (offer-more old.rank old.items.items c.self.invariant offers (c.self.view_is ∙ kept) c.args.rank c.args.item
          w.if-rank-self-2.true)
      | else-rank-self-2 w ↦ rw (c.in_ok-push.ensures.items, w.self-inside-is)
          (offer-same old.rank old.items.items c.self.invariant offers (c.self.view_is ∙ kept) c.args.rank c.args.item (omega arith))
    ]
