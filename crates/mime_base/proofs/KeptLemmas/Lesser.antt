-- Leaving out elements whose number is not the greatest changes nothing of what is kept by it.
use Rattle.std.proofs.Common.{◌≡◌, ℕ, suc, ◌<◌, ◌≤◌, ◌==◌, Bool, true, false, cond, inl, inr, List, [], ◌∷◌, refl, sym, ap, ◌∙◌, arith}
use Rattle.std.specs.List.{All, filter, list_any}
use Rattle.std.proofs.lemmas.Bool.{cases_order, ne_eqb, or_cases}
use Rattle.std.proofs.lemmas.List.Elements.{All-cons, All-head, All-nil, All-tail, All-weaker}
use Rattle.mime_base.specs.Kept.{greatest, of_greatest}
use Rattle.mime_base.proofs.KeptLemmas.Greatest.{filter-above, of_greatest-none}

-- of two filters either may come first
pub filter-swap : {X : Type 0} (p q : X → Bool) (xs : List X) → filter p (filter q xs) ≡ filter q (filter p xs)
filter-swap p q [] = refl
filter-swap p q (x ∷ xs) = by_cases (p x) (q x) refl refl (filter-swap p q xs)
  where
    by_cases : (s t : Bool) → p x ≡ s → q x ≡ t → filter p (filter q xs) ≡ filter q (filter p xs) →
        filter p (filter q (x ∷ xs)) ≡ filter q (filter p (x ∷ xs))
    by_cases true true is also rest = rw (is, also, is) (ap (λ ys. x ∷ ys) rest)
    by_cases true false is also rest = rw (is, also) rest
    by_cases false true is also rest = rw (also, is) rest
    by_cases false false is also rest = rw (is, also) rest

module _ {X : Type 0} (f : X → ℕ) where
  -- each number is at most the greatest
  pub All-greatest : (xs : List X) → All (λ x. f x < suc (greatest f xs)) xs
  All-greatest [] = All-nil _
  All-greatest (x ∷ xs) =
      All-cons (λ y. f y < suc (greatest f (x ∷ xs))) x xs (omega arith)
      (All-weaker (λ y. f y < suc (greatest f xs)) (λ y. f y < suc (greatest f (x ∷ xs))) (λ y below. omega arith) xs (All-greatest xs))

  -- what an element passes that has a greater number, the greatest of those that pass more is greater
  pub greatest-any : (n : ℕ) (p q : X → Bool) → ((x : X) → q x ≡ true → (p x ≡ true) × (n < f x)) → (xs : List X) → list_any q xs ≡ true →
      n < greatest f (filter p xs)
  greatest-any n p q greater [] some = absurd cc
  greatest-any n p q greater (x ∷ xs) some = elim (or_cases (q x) (list_any q xs) some) [
    | inl first ↦ (let is = greater x first in rw is.0 (let more = is.1 in omega arith))
    | inr later ↦ by_cases (p x) (greatest-any n p q greater xs later)
  ]
    where
      by_cases : (t : Bool) → n < greatest f (filter p xs) → n < greatest f (cond t (x ∷ filter p xs) (filter p xs))
      by_cases true rest = omega arith
      by_cases false rest = rest

  module _ (p : X → Bool) where
    -- no greater number is left
    greatest-filter : (xs : List X) → greatest f (filter p xs) ≤ greatest f xs
    greatest-filter [] = omega arith
    greatest-filter (x ∷ xs) = by_cases (p x) (greatest-filter xs)
      where
        by_cases : (t : Bool) → greatest f (filter p xs) ≤ greatest f xs →
            greatest f (cond t (x ∷ filter p xs) (filter p xs)) ≤ greatest f (x ∷ xs)
        by_cases true rest = omega arith
        by_cases false rest = omega arith

    -- those of a number above all that are left out stay
    filter-below : (n : ℕ) (xs : List X) → All (λ x. p x ≡ false → f x < n) xs →
        filter (λ x. f x == n) (filter p xs) ≡ filter (λ x. f x == n) xs
    filter-below n [] less = refl
    filter-below n (x ∷ xs) less =
        by_cases (p x) refl (All-head (λ y. p y ≡ false → f y < n) x xs less)
        (filter-below n xs (All-tail (λ y. p y ≡ false → f y < n) x xs less))
      where
        by_cases : (t : Bool) → p x ≡ t → (p x ≡ false → f x < n) → filter (λ y. f y == n) (filter p xs) ≡ filter (λ y. f y == n) xs →
            filter (λ y. f y == n) (filter p (x ∷ xs)) ≡ filter (λ y. f y == n) (x ∷ xs)
        by_cases true is below rest = rw is (ap (λ ys. cond (f x == n) (x ∷ ys) ys) rest)
        by_cases false is below rest =
            let under = below is in
            let other : (f x == n) ≡ false = ne_eqb (f x) n (λ e. omega arith) in
            rw (is, other) rest

    -- so do those of the greatest
    pub of_greatest-filter : (xs : List X) → All (λ x. p x ≡ false → f x < greatest f xs) xs →
        of_greatest f (filter p xs) ≡ of_greatest f xs
    of_greatest-filter xs less =
        let kept = filter-below (greatest f xs) xs less in
        let most = greatest-filter xs in
        elim (cases_order (greatest f (filter p xs)) (greatest f xs)) [
          | inl same ↦ rw same kept
          | inr (inl below) ↦ (let none = of_greatest-none f xs (sym kept ∙ filter-above f (greatest f xs) (filter p xs) below) in
              let zero : greatest f xs ≡ 0 = ap (greatest f) none in absurd (omega arith))
          | inr (inr above) ↦ absurd (omega arith)
        ]
