-- Of items by falling numbers those of the greatest come first.
use Rattle.std.proofs.Common.{◌≡◌, ℕ, ◌<◌, ◌≤◌, List, [], ◌∷◌, length, take, ap, refl, ⊎_elim, arith}
use Rattle.std.proofs.lemmas.Bool.{cases_order, eq-eqb}
use Rattle.std.specs.List.{AllByRecursion, filter}
use Rattle.mime_base.specs.Falling.{falling}
use Rattle.mime_base.specs.Kept.{greatest, of_greatest}
use Rattle.mime_base.proofs.FallingLemmas.Order.{Falls, all_below, below_falling, falls_falling, filter_falling, has, none_above}

module _ {A : Type 0} (number : A → ℕ) where
  -- no number is above the greatest
  below_greatest : (xs : List A) → AllByRecursion (λ x. number x ≤ greatest number xs) xs
  below_greatest [] = tt
  below_greatest (x ∷ xs) =
      (omega arith, all_below number (greatest number xs) (greatest number (x ∷ xs)) (omega arith) xs (below_greatest xs))

  -- where none is above n, those of n are the first
  take-has : (n : ℕ) (xs : List A) → Falls number xs → AllByRecursion (λ x. number x ≤ n) xs
      → take (length (filter (has number n) xs)) xs ≡ filter (has number n) xs
  take-has n [] falls all = refl
  take-has n (x ∷ xs) falls all = ⊎_elim
      (λ (level : number x ≡ n).
      rw (eq-eqb (number x) n level) (ap (λ rest. x ∷ rest) (take-has n xs falls.1 all.1)))
      (λ other. ⊎_elim
      (λ (lower : number x < n).
      let none : filter (has number n) (x ∷ xs) ≡ [] = none_above number (number x) n lower (x ∷ xs) (omega arith, falls.0) in
      rw none refl)
      (λ (higher : n < number x). absurd (omega (arith, all.0, higher)))
      other)
      (cases_order (number x) n)

  -- those of the greatest number are the first
  pub take-of_greatest : (xs : List A) → take (length (of_greatest number xs)) (falling number xs) ≡ of_greatest number xs
  take-of_greatest xs =
      let n = greatest number xs in
      let same = filter_falling number n xs in
      rw (← same) (take-has n (falling number xs) (falls_falling number xs) (below_falling number n xs (below_greatest xs)))
