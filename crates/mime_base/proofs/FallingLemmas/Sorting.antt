-- A stable sort by falling numbers gives the items by falling numbers.
use Rattle.std.proofs.Common.{◌≡◌, ℕ, zero, suc, ◌+◌, ◌<◌, ◌≤◌, Bool, false, not, ◌&&◌, eqb, ltb, List, [], ◌∷◌, length, get_or, ap₂, ◌∙◌}
use Rattle.std.proofs.Common.{sym, subst, ⊎_elim, add-one, arith}
use Rattle.std.proofs.lemmas.Bool.{cases_order, eq-eqb, le-ltb, ne_eqb}
use Rattle.std.proofs.lemmas.Cmp.{nat_cmp_total}
use Rattle.std.proofs.lemmas.List.Elements.{filter_agree}
use Rattle.std.proofs.lemmas.List.MinMax.{IsStrictWeakOrder-flip, ranks_by}
use Rattle.std.proofs.lemmas.Map.Keys.{ge_from_not_lt}
use Rattle.std.specs.Cmp.{IsStrictWeakOrder, nat_cmp_is}
use Rattle.std.specs.List.Sorted.{IsSortedBy, IsStableBy, ties}
use Rattle.std.specs.Ordering.{is_lt, nat_cmp}
use Rattle.std.specs.declared.cmp.Ordering.{Ordering}
use Rattle.std.specs.declared.cmp.Ordering.TheVariants.{Less, Equal, Greater}
use Rattle.mime_base.proofs.FallingLemmas.Order.{Falls, all_below, falls_falling, filter_falling, has, same_order}
use Rattle.mime_base.specs.Falling.{falling}

module _ {A : Type 0} (number : A → ℕ) where
  -- a higher number comes before
  abbrev pub before : A → A → Bool
  before left right = is_lt (nat_cmp (number right) (number left))

  -- that is an order
  pub before_order : IsStrictWeakOrder before
  before_order = IsStrictWeakOrder-flip (λ x y. is_lt (nat_cmp (number x) (number y))) (ranks_by nat_cmp_total number)

  -- neither comes before just where the numbers are equal
  tied : (m n : ℕ) → (not (is_lt (nat_cmp n m)) && not (is_lt (nat_cmp m n))) ≡ eqb n m
  tied m n = ⊎_elim
      (λ (same : m ≡ n).
      ap₂ neither (sym (nat_cmp_is n m Equal (sym same))) (sym (nat_cmp_is m n Equal same)) ∙ sym (eq-eqb n m (sym same)))
      (λ other. ⊎_elim
      (λ (lower : m < n).
      ap₂ neither (sym (nat_cmp_is n m Greater lower)) (sym (nat_cmp_is m n Less lower)) ∙ sym (ne_eqb n m (λ e. omega (arith, e, lower))))
      (λ (higher : n < m).
      ap₂ neither (sym (nat_cmp_is n m Less higher)) (sym (nat_cmp_is m n Greater higher))
      ∙ sym (ne_eqb n m (λ e. omega (arith, e, higher))))
      other)
      (cases_order m n)
    where
      neither : Ordering → Ordering → Bool
      neither left right = not (is_lt left) && not (is_lt right)

  -- a sorted list falls
  falls_sorted : (xs : List A) → IsSortedBy before xs → Falls number xs
  falls_sorted [] up = tt
  falls_sorted (x ∷ []) up = (tt, tt)
  falls_sorted (x ∷ y ∷ ys) up =
      let first : number y ≤ number x = ge_from_not_lt (number x) (number y) (up 0 x (omega arith) (omega arith)) in
      let later : Falls number (y ∷ ys) = falls_sorted (y ∷ ys) (λ k d low high.
      let next : suc k + 1 ≡ suc (k + 1) = omega arith in
      subst (λ i. before (get_or (x ∷ y ∷ ys) i d) (get_or (y ∷ ys) k d) ≡ false) next (up (suc k) d (omega arith) (omega arith))) in
      ((first, all_below number (number y) (number x) first ys later.0), later)

  -- a stable sort gives the items by falling numbers
  pub sorted_falling : (xs ys : List A) → IsSortedBy before ys → IsStableBy before xs ys → ys ≡ falling number xs
  sorted_falling xs ys up stable =
      same_order number ys (falling number xs) (falls_sorted ys up) (falls_falling number xs)
      (λ x.
      sym (filter_agree (ties before x) (has number (number x)) (λ y. tied (number x) (number y)) ys) ∙ stable x
      ∙ filter_agree (ties before x) (has number (number x)) (λ y. tied (number x) (number y)) xs
      ∙ sym (filter_falling number (number x) xs))

  -- in a list that falls no number is above the one before
  falls_at : (xs : List A) (k : ℕ) (d : A) → Falls number xs → suc k < length xs → number (get_or xs (suc k) d) ≤ number (get_or xs k d)
  falls_at [] k d falls high = absurd (omega arith)
  falls_at (x ∷ []) k d falls high = absurd (omega arith)
  falls_at (x ∷ y ∷ ys) zero d falls high = falls.0.0
  falls_at (x ∷ y ∷ ys) (suc k) d falls high = falls_at (y ∷ ys) k d falls.1 (omega arith)

  -- the same, as a list in order
  pub sorted_from_falls : (xs : List A) → Falls number xs → IsSortedBy (λ left right. ltb (number right) (number left)) xs
  sorted_from_falls xs falls = λ k d low high. le-ltb _ _ (rw add-one (falls_at xs k d falls (omega arith)))
