use Rattle.std.proofs.Common.{rules, sym, true}
use Rattle.std.proofs.lemmas.List.Sorted.{IsNonDecreasingBy-from_sort, non_decreasing_from_is_sorted}
use Rattle.smallvec.proofs.SmallVecLemmas.{items-with_items}
use Rattle.mime_names.proofs.places.in_order.Goals as goal

pub returns-then-not-is_sorted-clause-sorted : goal.returns-then-not-is_sorted-clause-sorted
returns-then-not-is_sorted-clause-sorted c =
    rw (items-with_items c.args.places.now c.sort_unstable.new.self (search rules))
    (IsNonDecreasingBy-from_sort (λ place. place) _ c.sort_unstable.ensures.sorted)

pub returns-then-not-is_sorted-clause-permutation : goal.returns-then-not-is_sorted-clause-permutation
returns-then-not-is_sorted-clause-permutation c =
    rw (items-with_items c.args.places.now c.sort_unstable.new.self (search rules), sym c.as_mut_slice-places.ensures.value)
    c.sort_unstable.ensures.permutation

pub returns-else-not-is_sorted-clause-sorted : goal.returns-else-not-is_sorted-clause-sorted
returns-else-not-is_sorted-clause-sorted c =
    rw (items-with_items c.args.places.now c.as_mut_slice-places.result.now (search rules))
    (non_decreasing_from_is_sorted c.as_mut_slice-places.result.now true c.if-not-is_sorted.ensures.cases)
