use Rattle.std.proofs.Common.{length, ap, ◌∙◌}
use Rattle.std.proofs.lemmas.List.{take_all}
use Rattle.mime_view.proofs.HitsLemmas.SortedOffers.{best-at_first, best-none}
use Rattle.mime_view.proofs.hits.count_best.Goals as goal

pub returns-in_default : goal.returns-in_default
returns-in_default c = λ offers sorted. best-none c.args.hits.now offers c.in_default.ensures.value sorted

pub returns : goal.returns
returns c = λ offers sorted.
    let all = take_all c.loop-hit.hit-index c.args.hits.now c.loop-hit-test.false in
    rw all at c.loop-hit.invariant.counted
    ∙ ap length (best-at_first c.in-Some.first.now c.args.hits.now offers c.in-Some.ensures.value sorted)
