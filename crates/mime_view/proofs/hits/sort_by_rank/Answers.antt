use Rattle.std.proofs.Common.{rules, arith}
use Rattle.std.proofs.lemmas.List.Sorted.{answers_always}
use Rattle.smallvec.proofs.SmallVecLemmas.{items-with_items}
use Rattle.mime_base.proofs.FallingLemmas.Sorting.{before, before_order, sorted_falling}
use Rattle.mime_view.proofs.HitsLemmas.SortedOffers.{falling-one, offered_rank}
use Rattle.mime_view.proofs.hits.sort_by_rank.Goals as goal

pub returns-in_ok-sort_by-clause-sorted : goal.returns-in_ok-sort_by-clause-sorted
returns-in_ok-sort_by-clause-sorted c =
    let sorted = before offered_rank in
    let order = before_order offered_rank in
    rw (items-with_items c.args.hits.now c.sort_by.new.self (search rules))
    (sorted_falling offered_rank c.args.hits.now.items c.sort_by.new.self
    (c.in_ok-sort_by.ensures.sorted sorted order (answers_always _ _ _ (λ f a r f' q. search rules)))
    (rw c.deref_mut.ensures.value at
    (c.sort_by.ensures.stable sorted order (answers_always _ _ _ (λ f a r f' q. search rules)))))

pub returns-else-len-gt1-clause-sorted : goal.returns-else-len-gt1-clause-sorted
returns-else-len-gt1-clause-sorted c =
    falling-one offered_rank c.args.hits.now.items (omega (arith, c.if-len-gt1.false, c.len.ensures))
