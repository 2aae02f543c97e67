-- What is kept of rules that are offered one after another: those of the greatest rank.
use Rattle.std.proofs.Common.{◌≡◌, ℕ, ◌<◌, ◌==◌, Bool, true, false, ◌&&◌, inl, inr, List, [], ◌∷◌, ◌++◌, map, max}
use Rattle.std.proofs.Common.{refl, sym, ap, subst, ◌∙◌, arith, true≢false}
use Rattle.std.specs.Prelude.{Ok, nat_le}
use Rattle.std.specs.List.{All, filter, list_all}
use Rattle.std.proofs.lemmas.Bool.{cases_order, leb-false}
use Rattle.std.proofs.lemmas.List.Elements.{All-head, All-tail, filter_passes}
use Rattle.mime_base.specs.Cache.Texts.{text_at}
use Rattle.mime_base.specs.Kept.{best, greatest, of_greatest, rank_of_rule}
use Rattle.mime_base.specs.declared.database.rule.GlobRule.{GlobRule}
use Rattle.mime_base.proofs.KeptLemmas.Greatest.{cons-less, cons-more, cons-same, of_greatest-one, push-less, push-more, push-same}
use Rattle.mime_view.specs.Gathered.{AreOffers}
use Rattle.mime_view.proofs.HitsLemmas.Offers.{best-offers, offers-push, top-offers}

-- keeping by a number, of what was kept by it
module _ {X : Type 0} (f : X → ℕ) where
  -- the greatest number is that of what was kept
  pub greatest-kept : (xs : List X) → greatest f (of_greatest f xs) ≡ greatest f xs
  greatest-kept [] = refl
  greatest-kept (x ∷ xs) =
      let rest = greatest-kept xs in
      elim (cases_order (f x) (greatest f xs)) [
        | inl same ↦ (rw (cons-same f x xs same) (omega arith))
        | inr (inl less) ↦ (rw (cons-less f x xs less) (omega arith))
        | inr (inr more) ↦ (rw (cons-more f x xs more) (omega arith))
      ]

  -- all that was kept is kept again
  pub kept-again : (xs : List X) → of_greatest f (of_greatest f xs) ≡ of_greatest f xs
  kept-again [] = refl
  kept-again (x ∷ xs) =
      let rest = kept-again xs in
      let top = greatest-kept xs in
      elim (cases_order (f x) (greatest f xs)) [
        | inl same ↦ (rw (cons-same f x xs same) (cons-same f x (of_greatest f xs) (omega arith) ∙ ap (λ more. x ∷ more) rest))
        | inr (inl less) ↦ (rw (cons-less f x xs less) rest)
        | inr (inr more) ↦ (rw (cons-more f x xs more) (of_greatest-one f x))
      ]

  -- what is kept of some elements and one more is kept of those that are kept and that one
  pub kept-more : (xs : List X) (x : X) → of_greatest f (of_greatest f xs ++ x ∷ []) ≡ of_greatest f (xs ++ x ∷ [])
  kept-more xs x =
      let kept = of_greatest f xs in
      let top = greatest-kept xs in
      elim (cases_order (f x) (greatest f xs)) [
        | inl same ↦ (push-same f kept x (omega arith) ∙ ap (λ front. front ++ x ∷ []) (kept-again xs) ∙ sym (push-same f xs x same))
        | inr (inl less) ↦ (push-less f kept x (omega arith) ∙ kept-again xs ∙ sym (push-less f xs x less))
        | inr (inr more) ↦ (push-more f kept x (omega arith) ∙ sym (push-more f xs x more))
      ]

-- the greatest rank of offers of one rank is that rank
greatest-ranked : (rank kind : ℕ) (kinds : List ℕ)
    → greatest {X = ℕ × ℕ} (λ offer. offer.0) (map (λ kind. (rank, kind)) (kind ∷ kinds)) ≡ rank
greatest-ranked rank kind [] = omega arith
greatest-ranked rank kind (other ∷ kinds) = let rest = greatest-ranked rank other kinds in omega arith

-- all of one rank are the best
pub best-ranked : (rank : ℕ) (kinds : List ℕ) → best (map (λ kind. (rank, kind)) kinds) ≡ map (λ kind. (rank, kind)) kinds
best-ranked rank [] = refl
best-ranked rank (kind ∷ []) = of_greatest-one (λ offer. offer.0) (rank, kind)
best-ranked rank (kind ∷ other ∷ kinds) =
    cons-same (λ offer. offer.0) (rank, kind) (map (λ kind. (rank, kind)) (other ∷ kinds)) (sym (greatest-ranked rank other kinds))
    ∙ ap (λ more. (rank, kind) ∷ more) (best-ranked rank (other ∷ kinds))

-- of offers of one rank all are kept
offers-alike : (c : List ℕ) (n : ℕ) (offers : List (ℕ × ℕ)) (rules : List GlobRule) → AreOffers c offers rules
    → All (λ rule. (rank_of_rule rule == n) ≡ true) rules → filter (λ offer. offer.0 == n) offers ≡ offers
offers-alike c n [] [] are all = refl
offers-alike c n [] (rule ∷ rules) are all = absurd are
offers-alike c n (offer ∷ offers) [] are all = absurd are
offers-alike c n (offer ∷ offers) (rule ∷ rules) are all =
    let head = All-head (λ rule. (rank_of_rule rule == n) ≡ true) rule rules all in
    let same : (offer.0 == n) ≡ true = ap (λ k. k == n) are.0 ∙ head in
    rw same (ap (λ more. offer ∷ more)
    (offers-alike c n offers rules are.2 (All-tail (λ rule. (rank_of_rule rule == n) ≡ true) rule rules all)))

-- what is kept of some rules is the best of itself
pub best-kept : (c : List ℕ) (kept : List (ℕ × ℕ)) (rules : List GlobRule) → AreOffers c kept (of_greatest rank_of_rule rules) → kept ≡ best kept
best-kept c kept rules are =
    let tops = top-offers c kept (of_greatest rank_of_rule rules) are ∙ greatest-kept rank_of_rule rules in
    let all = filter_passes (λ rule. rank_of_rule rule == greatest rank_of_rule rules) rules in
    let same = offers-alike c (greatest rank_of_rule rules) kept (of_greatest rank_of_rule rules) are all in
    sym (ap (λ (n : ℕ). filter (λ offer. offer.0 == n) kept) tops ∙ same)

-- an offer after what is kept
pub kept_offer : (c : List ℕ) (kept new : List (ℕ × ℕ)) (rank kind : ℕ) (rule : GlobRule) → rank ≡ rank_of_rule rule
    → text_at c kind ≡ Ok rule.kind → new ≡ best (kept ++ (rank, kind) ∷ []) → (before : List GlobRule) → AreOffers c kept (of_greatest rank_of_rule before)
    → AreOffers c new (of_greatest rank_of_rule (before ++ rule ∷ []))
kept_offer c kept new rank kind rule ranked text is before are =
    let offers = kept ++ (rank, kind) ∷ [] in
    let rules = of_greatest rank_of_rule before ++ rule ∷ [] in
    let pushed = offers-push c kept (of_greatest rank_of_rule before) (rank, kind) rule are ranked text in
    let best_of = best-offers c offers rules pushed in
    rw is (subst (AreOffers c (best offers)) (kept-more rank_of_rule before rule) best_of)

-- a rank that is not wanted is less than the greatest
below_top : (c : List ℕ) (n : ℕ) (offers : List (ℕ × ℕ)) (rules : List GlobRule) → AreOffers c offers rules
    → list_all (λ offer. nat_le offer.0 n) offers ≡ false → n < greatest rank_of_rule rules
below_top c n [] rules are unwanted = absurd (true≢false unwanted)
below_top c n (offer ∷ offers) [] are unwanted = absurd are
below_top c n (offer ∷ offers) (rule ∷ rules) are unwanted = by_test (nat_le offer.0 n) refl unwanted (below_top c n offers rules are.2)
  where
    by_test : (b : Bool) → nat_le offer.0 n ≡ b → (b && list_all (λ offer. nat_le offer.0 n) offers) ≡ false
        → (list_all (λ offer. nat_le offer.0 n) offers ≡ false → n < greatest rank_of_rule rules)
        → n < max (rank_of_rule rule) (greatest rank_of_rule rules)
    by_test true is unwanted more = let above = more unwanted in omega arith
    by_test false is unwanted more = let above = leb-false offer.0 n is in let same = are.0 in omega arith

-- a rule whose rank is not wanted changes nothing
pub kept_unwanted : (c : List ℕ) (kept : List (ℕ × ℕ)) (rule : GlobRule) (rank : ℕ) → rank ≡ rank_of_rule rule
    → list_all (λ offer. nat_le offer.0 rank) kept ≡ false → (before : List GlobRule) → AreOffers c kept (of_greatest rank_of_rule before)
    → AreOffers c kept (of_greatest rank_of_rule (before ++ rule ∷ []))
kept_unwanted c kept rule rank ranked unwanted before are =
    let below = below_top c rank kept (of_greatest rank_of_rule before) are unwanted in
    let top = greatest-kept rank_of_rule before in
    subst (AreOffers c kept) (sym (push-less rank_of_rule before rule (omega arith))) are
