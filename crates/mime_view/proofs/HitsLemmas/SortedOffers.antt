-- Hits by falling rank: they are of the rules by falling rank, and those of the greatest rank come first.
use Rattle.std.proofs.Common.{◌≡◌, ℕ, suc, ◌≤◌, ◌==◌, Bool, true, false, cond, ltb, List, [], ◌∷◌, length, refl, sym, ap, ap₂, subst, ◌∙◌, arith}
use Rattle.std.specs.Prelude.{None, Ok, Some}
use Rattle.std.specs.List.{AllByRecursion, filter, slice_get}
use Rattle.mime_base.specs.Cache.Texts.{text_at}
use Rattle.mime_base.specs.Falling.{falling, insert_falling}
use Rattle.mime_base.specs.Kept.{best, greatest, rank_of_rule}
use Rattle.mime_base.specs.declared.database.rule.GlobRule.{GlobRule}
use Rattle.mime_base.proofs.FallingLemmas.Order.{Falls, falls_falling, filter_falling}
use Rattle.mime_view.specs.Gathered.{AreOffers, in_order}
use Rattle.mime_view.specs.declared.name_hits.Which.{Which}
use Rattle.mime_view.specs.declared.name_hits.Which.TheVariants.{Candidates, Kept}
use Rattle.mime_view.proofs.HitsLemmas.SameRanks.{of_greatest-each}

-- the rank of an offer
abbrev pub offered_rank : (ℕ × ℕ) → ℕ
offered_rank offer = offer.0

-- an offer at its place is of the rule at its place
offers-insert : (c : List ℕ) (offer : ℕ × ℕ) (rule : GlobRule) (offers : List (ℕ × ℕ)) (rules : List GlobRule)
    → offer.0 ≡ rank_of_rule rule → text_at c offer.1 ≡ Ok rule.kind → AreOffers c offers rules
    → AreOffers c (insert_falling offered_rank offer offers) (insert_falling rank_of_rule rule rules)
offers-insert c offer rule [] [] rank kind are = (rank, kind, tt)
offers-insert c offer rule [] (r ∷ rules) rank kind are = absurd are
offers-insert c offer rule (o ∷ offers) [] rank kind are = absurd are
offers-insert c offer rule (o ∷ offers) (r ∷ rules) rank kind are =
    let same : ltb offer.0 o.0 ≡ ltb (rank_of_rule rule) (rank_of_rule r) = ap₂ ltb rank are.0 in
    rw same (by_test (ltb (rank_of_rule rule) (rank_of_rule r)) (offers-insert c offer rule offers rules rank kind are.2))
  where
    by_test : (b : Bool) → AreOffers c (insert_falling offered_rank offer offers) (insert_falling rank_of_rule rule rules)
        → AreOffers c (cond b (o ∷ insert_falling offered_rank offer offers) (offer ∷ o ∷ offers))
        (cond b (r ∷ insert_falling rank_of_rule rule rules) (rule ∷ r ∷ rules))
    by_test true rest = (are.0, are.1, rest)
    by_test false rest = (rank, kind, are)

-- the offers by falling rank are those of the rules by falling rank
pub offers-falling : (c : List ℕ) (offers : List (ℕ × ℕ)) (rules : List GlobRule) → AreOffers c offers rules
    → AreOffers c (falling offered_rank offers) (falling rank_of_rule rules)
offers-falling c [] [] are = tt
offers-falling c [] (rule ∷ rules) are = absurd are
offers-falling c (offer ∷ offers) [] are = absurd are
offers-falling c (offer ∷ offers) (rule ∷ rules) are =
    offers-insert c offer rule (falling offered_rank offers) (falling rank_of_rule rules) are.0 are.1
    (offers-falling c offers rules are.2)

-- in any order the best are the same
best-falling : (offers : List (ℕ × ℕ)) → best (falling offered_rank offers) ≡ best offers
best-falling offers =
    of_greatest-each offered_rank (falling offered_rank offers) offers (λ n. filter_falling offered_rank n offers)

-- no rank is above a bound of all
greatest-within : (n : ℕ) (offers : List (ℕ × ℕ)) → AllByRecursion (λ offer. offer.0 ≤ n) offers → greatest offered_rank offers ≤ n
greatest-within n [] all = omega arith
greatest-within n (offer ∷ offers) all = let rest = greatest-within n offers all.1 in let first = all.0 in omega arith

-- of offers by falling rank those of the first rank are the best
best-first : (first : ℕ × ℕ) (more offers : List (ℕ × ℕ)) → first ∷ more ≡ falling offered_rank offers
    → filter (λ offer. offer.0 == first.0) (first ∷ more) ≡ best offers
best-first first more offers is =
    let falls : Falls offered_rank (first ∷ more) = subst (Falls offered_rank) (sym is) (falls_falling offered_rank offers) in
    let within = greatest-within first.0 more falls.0 in
    let top : first.0 ≡ greatest offered_rank (first ∷ more) = omega arith in
    ap (λ (n : ℕ). filter (λ offer. offer.0 == n) (first ∷ more)) top ∙ ap best is ∙ best-falling offers

-- the same, of the offer at the first place
pub best-at_first : (first : ℕ × ℕ) (sorted offers : List (ℕ × ℕ)) → Some first ≡ slice_get sorted 0
    → sorted ≡ falling offered_rank offers → filter (λ offer. offer.0 == first.0) sorted ≡ best offers
best-at_first first [] offers at is = absurd cc
best-at_first first (other ∷ more) offers at is =
    let same : other ≡ first = cc in
    subst (λ (top : ℕ × ℕ). filter (λ offer. offer.0 == top.0) (other ∷ more) ≡ best offers) same (best-first other more offers is)

-- where there is none, there is no best
pub best-none : (sorted offers : List (ℕ × ℕ)) → None ≡ slice_get sorted 0 → sorted ≡ falling offered_rank offers
    → 0 ≡ length (best offers)
best-none [] offers at is = ap (λ (xs : List (ℕ × ℕ)). length (best xs)) is ∙ ap length (best-falling offers)
best-none (other ∷ more) offers at is = absurd cc

-- an item more at its place
length-insert : {A : Type 0} (number : A → ℕ) (item : A) (items : List A) → length (insert_falling number item items) ≡ suc (length items)
length-insert number item [] = refl
length-insert number item (first ∷ rest) =
    elim (ltb (number item) (number first)) as (λ t.
    length (cond t (first ∷ insert_falling number item rest) (item ∷ first ∷ rest)) ≡ suc (suc (length rest)))
    [ true ↦ ap suc (length-insert number item rest) | false ↦ refl ]

-- in any order there are as many items
pub length-falling : {A : Type 0} (number : A → ℕ) (items : List A) → length (falling number items) ≡ length items
length-falling number [] = refl
length-falling number (item ∷ items) = length-insert number item (falling number items) ∙ ap suc (length-falling number items)

-- as many hits are given as are held
pub length-in_order : (which : Which) (offers : List (ℕ × ℕ)) → length (in_order which offers) ≡ length offers
length-in_order Kept offers = refl
length-in_order Candidates offers = length-falling offered_rank offers

-- one item, or none, is in the order of falling numbers
pub falling-one : {A : Type 0} (number : A → ℕ) (items : List A) → length items ≤ 1 → items ≡ falling number items
falling-one number [] few = refl
falling-one number (item ∷ []) few = refl
falling-one number (item ∷ second ∷ items) few = absurd (omega (arith, few))
