use Rattle.std.proofs.Common.{◌≡◌, ◌+◌, ◌-◌, ◌<◌, ◌∙◌, ◌++◌, ◌∷◌, [], length, get_or, None, sym, ap, subst, arith}
use Rattle.std.proofs.lemmas.List.{get_or_default}
use Rattle.mime_base.specs.Database.PlainPairs.{plain_pairs}
use Rattle.mime_base.specs.Database.Subclass.{above, resolved}
use Rattle.mime_lookup.specs.Places.{IsNextPlace}
use Rattle.mime_lookup.specs.NameMap.{value_in}
use Rattle.mime_lookup.proofs.AncestryLemmas.Walks.{Walked, places_left-falls, walked-all, walked-first, walked-length, walked-more}
use Rattle.mime_lookup.proofs.places.push_parents.Goals as goal

pub loop-place-init : goal.loop-place-init
loop-place-init c =
    walked-first c.args.both.now.parents.pairs.now (resolved (plain_pairs c.args.both.now.aliases.pairs.now)) c.args.kind.now
    c.args.queue.now c.value_of-place.result
    (subst (IsNextPlace c.args.both.now.parents.pairs.now c.args.kind.now 0) (sym c.value_of-place.ensures)
    (c.requires.placed.parents.indexed.firsts c.args.kind.now))

pub bounds-pairs-here : goal.bounds-pairs-here
bounds-pairs-here c = let at = rw c.in-Some.is at c.loop-place.invariant in at.next.1

pub overflow_sub-pairs : goal.overflow_sub-pairs
overflow_sub-pairs c = let at = rw c.in-Some.is at c.loop-place.invariant in omega (arith, at.next.1)

pub overflow_sub-pairs-in-Some : goal.overflow_sub-pairs-in-Some
overflow_sub-pairs-in-Some c = let at = rw c.in-Some.is at c.loop-place.invariant in omega (arith, at.next.1)

pub index-place-requires : goal.index-place-requires
index-place-requires c =
    let at = rw c.in-Some.is at c.loop-place.invariant in
    omega (arith, at.next.1, c.requires.placed.parents.indexed.size, c.args.both.now.parents.next.ok.0)

pub loop-place-smaller : goal.loop-place-smaller
loop-place-smaller c =
    let pairs = c.args.both.now.parents.pairs.now in
    let next = c.args.both.now.parents.next.items in
    let here = c.in-Some.here in
    let k = length pairs - 1 - here in
    let at = rw c.in-Some.is at c.loop-place.invariant in
    let inside : k < length next = omega (arith, at.next.1, c.requires.placed.parents.indexed.size) in
    let size : k + (here + 1) ≡ length pairs = omega (arith, at.next.1) in
    rw (c.in-Some.is, c.index-place.ensures, get_or_default next k c.index-place.result.now None inside)
    (places_left-falls pairs c.index-pairs-here.result.name here (get_or next k None) at.next.1
    (c.requires.placed.parents.indexed.nexts here k c.index-pairs-here.result (omega arith) size c.index-pairs-here.is))

pub loop-place-preserved : goal.loop-place-preserved
loop-place-preserved c =
    let pairs = c.args.both.now.parents.pairs.now in
    let step = resolved (plain_pairs c.args.both.now.aliases.pairs.now) in
    let next = c.args.both.now.parents.next.items in
    let here = c.in-Some.here in
    let k = length pairs - 1 - here in
    let at = rw c.in-Some.is at c.loop-place.invariant in
    let inside : k < length next = omega (arith, at.next.1, c.requires.placed.parents.indexed.size) in
    let size : k + (here + 1) ≡ length pairs = omega (arith, at.next.1) in
    let value : c.index-place.result.now ≡ get_or next k None =
    c.index-place.ensures ∙ get_or_default next k c.index-place.result.now None inside in
    rw c.in_ok-push_back.ensures.added
    (subst (λ place. Walked pairs step c.args.kind.now place (c.loop-place.queue ++ c.unalias_at.result.now ∷ []) c.args.queue.now)
    (sym value)
    (walked-more pairs step c.args.kind.now c.args.queue.now here c.index-pairs-here.result c.index-pairs-here.is c.loop-place.queue
    c.unalias_at.result.now (value_in c.args.both.now.parents.first) next k at c.requires.placed.parents.indexed size
    (c.unalias_at.ensures ∙ ap step c.bytes.ensures.text)))

pub returns-clause-queue : goal.returns-clause-queue
unfolding above
returns-clause-queue c =
    let at = rw c.in_default.is at c.loop-place.invariant in
    walked-all c.args.both.now.parents.pairs.now (resolved (plain_pairs c.args.both.now.aliases.pairs.now)) c.args.kind.now
    c.args.queue.now c.loop-place.queue at

pub returns-clause-longer : goal.returns-clause-longer
returns-clause-longer c =
    let at = rw c.in_default.is at c.loop-place.invariant in
    walked-length c.args.both.now.parents.pairs.now (resolved (plain_pairs c.args.both.now.aliases.pairs.now)) c.args.kind.now
    c.args.queue.now c.loop-place.queue at
