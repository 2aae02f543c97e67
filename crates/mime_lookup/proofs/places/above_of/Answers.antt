use Rattle.std.proofs.Common.{◌≡◌, ◌+◌, ◌-◌, ◌<◌, ◌∙◌, ◌∷◌, [], length, map, None, sym, ap, subst, arith}
use Rattle.std.proofs.lemmas.List.{get_or_default}
use Rattle.mime_base.specs.Database.PlainPairs.{plain_pairs}
use Rattle.mime_base.specs.Database.Subclass.{above, resolved}
use Rattle.mime_lookup.specs.Places.{IsNextPlace}
use Rattle.mime_lookup.proofs.AncestryLemmas.Above.{none_of, parents-only}
use Rattle.mime_lookup.proofs.AncestryLemmas.Walks.{item_at}
use Rattle.mime_lookup.proofs.places.above_of.Goals as goal

pub returns-in_default : goal.returns-in_default
unfolding above
returns-in_default c =
    ap (map (resolved (plain_pairs c.args.both.now.aliases.pairs.now)))
    (subst (IsNextPlace c.args.both.now.parents.pairs.now c.args.kind.now 0) (sym c.value_of.ensures ∙ c.in_default.is)
    (c.requires.placed.parents.indexed.firsts c.args.kind.now))

pub overflow_sub-pairs : goal.overflow_sub-pairs
overflow_sub-pairs c =
    let at = subst (IsNextPlace c.args.both.now.parents.pairs.now c.args.kind.now 0) (sym c.value_of.ensures ∙ c.in-Some.is)
    (c.requires.placed.parents.indexed.firsts c.args.kind.now) in
    omega (arith, at.1)

pub overflow_sub-pairs-2 : goal.overflow_sub-pairs-2
overflow_sub-pairs-2 c =
    let at = subst (IsNextPlace c.args.both.now.parents.pairs.now c.args.kind.now 0) (sym c.value_of.ensures ∙ c.in-Some.is)
    (c.requires.placed.parents.indexed.firsts c.args.kind.now) in
    omega (arith, at.1)

pub index-requires : goal.index-requires
index-requires c =
    let at = subst (IsNextPlace c.args.both.now.parents.pairs.now c.args.kind.now 0) (sym c.value_of.ensures ∙ c.in-Some.is)
    (c.requires.placed.parents.indexed.firsts c.args.kind.now) in
    omega (arith, at.1, c.requires.placed.parents.indexed.size, c.args.both.now.parents.next.ok.0)

pub target_at-requires : goal.target_at-requires
target_at-requires c =
    let at = subst (IsNextPlace c.args.both.now.parents.pairs.now c.args.kind.now 0) (sym c.value_of.ensures ∙ c.in-Some.is)
    (c.requires.placed.parents.indexed.firsts c.args.kind.now) in
    record { within = at.1 }

pub returns : goal.returns
unfolding above
returns c =
    let pairs = c.args.both.now.parents.pairs.now in
    let next = c.args.both.now.parents.next.items in
    let place = c.in-Some.place in
    let k = length pairs - 1 - place in
    let at = subst (IsNextPlace pairs c.args.kind.now 0) (sym c.value_of.ensures ∙ c.in-Some.is)
    (c.requires.placed.parents.indexed.firsts c.args.kind.now) in
    let inside : k < length next = omega (arith, at.1, c.requires.placed.parents.indexed.size) in
    let size : k + (place + 1) ≡ length pairs = omega (arith, at.1) in
    let last = sym (get_or_default next k c.index.result.now None inside) ∙ sym c.index.ensures ∙ none_of c.index.result.now (sym c.is_some.ensures ∙ c.if-is_some.false) in
    let pair = item_at pairs place at.1 in
    ap (map (resolved (plain_pairs c.args.both.now.aliases.pairs.now)))
    (parents-only pairs c.args.kind.now place k pair.0 _ next c.requires.placed.parents.indexed at size last pair.1)
    ∙ ap (λ t. t ∷ [])
    (ap (resolved (plain_pairs c.args.both.now.aliases.pairs.now)) (sym (c.target_at.ensures pair.0 pair.1)) ∙ sym c.unalias_at.ensures)
