-- How many members filters keep.
use Rattle.std.proofs.Common.{◌≡◌, ◌+◌, ◌≤◌, Bool, true, false, cond, ◌||◌, List, [], ◌∷◌, length, refl, sym, arith, true≢false}
use Rattle.std.specs.List.{filter}

module _ {X : Type 0} where
  -- how many members pass either of two tests, of which none passes both
  pub length-filter_or : (p q : X → Bool) → ((x : X) → p x ≡ true → q x ≡ false) → (xs : List X)
      → length (filter p xs) + length (filter q xs) ≡ length (filter (λ x. p x || q x) xs)
  length-filter_or p q apart [] = omega arith
  length-filter_or p q apart (x ∷ xs) = by_cases (p x) (q x) (apart x) (length-filter_or p q apart xs)
    where
      by_cases : (a b : Bool) → (a ≡ true → b ≡ false)
          → length (filter p xs) + length (filter q xs) ≡ length (filter (λ y. p y || q y) xs)
          → length (cond a (x ∷ filter p xs) (filter p xs)) + length (cond b (x ∷ filter q xs) (filter q xs))
          ≡ length (cond (a || b) (x ∷ filter (λ y. p y || q y) xs) (filter (λ y. p y || q y) xs))
      by_cases true true one rest = absurd (true≢false (one refl))
      by_cases true false one rest = omega arith
      by_cases false true one rest = omega arith
      by_cases false false one rest = rest

  -- a weaker test passes as many at least
  pub length-filter_weaker : (p q : X → Bool) → ((x : X) → p x ≡ true → q x ≡ true) → (xs : List X)
      → length (filter p xs) ≤ length (filter q xs)
  length-filter_weaker p q weaker [] = omega arith
  length-filter_weaker p q weaker (x ∷ xs) = by_cases (p x) (q x) (weaker x) (length-filter_weaker p q weaker xs)
    where
      by_cases : (a b : Bool) → (a ≡ true → b ≡ true) → length (filter p xs) ≤ length (filter q xs)
          → length (cond a (x ∷ filter p xs) (filter p xs)) ≤ length (cond b (x ∷ filter q xs) (filter q xs))
      by_cases true true so rest = omega arith
      by_cases true false so rest = absurd (true≢false (sym (so refl)))
      by_cases false true so rest = omega arith
      by_cases false false so rest = rest
