-- Where a text and a key stop to be equal: windows of both, and what is left there.
use Rattle.std.proofs.Common.{◌≡◌, ℕ, zero, suc, ◌+◌, ◌<◌, ◌≤◌, ◌==◌, nat_eq, min, Bool, true, false, cond}
use Rattle.std.proofs.Common.{List, [], ◌∷◌, length, take, drop, refl, sym, ap, ◌∙◌, arith}
use Rattle.std.specs.List.{common_prefix_len}
use Rattle.std.specs.Ordering.{nat_cmp}
use Rattle.std.specs.Cmp.{nat_cmp_is}
use Rattle.std.specs.Cmp.Lexicographic.{slice_cmp}
use Rattle.std.specs.declared.cmp.Ordering.TheVariants.{Equal}
use Rattle.std.proofs.lemmas.Bool.{eqb-true}
use Rattle.std.proofs.lemmas.List.{take_all}
use Rattle.std.proofs.lemmas.List.Sums.{common_prefix_len-le}
use Rattle.mime_base.specs.Cache.Texts.{before_zero, shared}

-- nothing is equal to an empty key
pub shared-nil : (xs : List ℕ) → shared xs [] ≡ 0
shared-nil [] = refl
shared-nil (x ∷ xs) = none (x == 0)
  where
    none : (ends : Bool) → common_prefix_len nat_eq (cond ends [] (x ∷ before_zero xs)) [] ≡ 0
    none true = refl
    none false = refl

-- what the first byte of each tells
pub shared-first : (x y : ℕ) (xs ys : List ℕ) → shared (x ∷ xs) (y ∷ ys) ≡ cond (x == 0) 0 (cond (x == y) (1 + shared xs ys) 0)
shared-first x y xs ys = first (x == 0)
  where
    first : (ends : Bool) → common_prefix_len nat_eq (cond ends [] (x ∷ before_zero xs)) (y ∷ ys)
        ≡ cond ends 0 (cond (x == y) (1 + common_prefix_len nat_eq (before_zero xs) ys) 0)
    first true = refl
    first false = refl

-- how many are equal in a window at the front of both
pub shared-front : (n : ℕ) (xs ys : List ℕ) → shared (take n xs) (take n ys) ≡ min n (shared xs ys)
shared-front zero xs ys = omega arith
shared-front (suc n) [] ys = omega arith
shared-front (suc n) (x ∷ xs) [] = omega (arith, shared-nil (x ∷ take n xs), shared-nil (x ∷ xs))
shared-front (suc n) (x ∷ xs) (y ∷ ys) =
    shared-first x y (take n xs) (take n ys) ∙ step (x == 0) (x == y) _ _ (shared-front n xs ys)
    ∙ ap (min (suc n)) (sym (shared-first x y xs ys))
  where
    step : (ends same : Bool) (k m : ℕ) → k ≡ min n m → cond ends 0 (cond same (1 + k) 0) ≡ min (suc n) (cond ends 0 (cond same (1 + m) 0))
    step true same k m is = omega arith
    step false true k m is = omega (arith, is)
    step false false k m is = omega arith

-- how many are equal of a front that is no shorter than the key
shared-room : (room : ℕ) (xs ys : List ℕ) → length ys ≤ room → shared (take room xs) ys ≡ shared xs ys
shared-room room xs ys short =
    ap (shared (take room xs)) (sym (take_all room ys short)) ∙ shared-front room xs ys
    ∙ most (shared xs ys) (omega (arith, (common_prefix_len-le nat_eq (before_zero xs) ys).1))
  where
    most : (k : ℕ) → k ≤ room → min room k ≡ k
    most k l = omega arith

-- a first byte that is equal leaves the order to the others
same-order : (x y : ℕ) (xs ys : List ℕ) → (x == y) ≡ true → slice_cmp nat_cmp (x ∷ xs) (y ∷ ys) ≡ slice_cmp nat_cmp xs ys
same-order x y xs ys same = rw (sym (nat_cmp_is x y Equal (eqb-true x y same))) refl

-- a comparison that goes on neither ended nor differed
goes_on : (ends same : Bool) (n k : ℕ) → suc k ≤ cond ends 0 (cond same (1 + n) 0) → (ends ≡ false) × (same ≡ true) × (k ≤ n)
goes_on true same n k within = absurd (omega arith)
goes_on false true n k within = (refl, refl, omega arith)
goes_on false false n k within = absurd (omega arith)

-- what is left after some that are equal
pub shared-on : (k : ℕ) (xs ys : List ℕ) → k ≤ shared xs ys →
    (k + shared (drop k xs) (drop k ys) ≡ shared xs ys)
    × (slice_cmp nat_cmp (before_zero (drop k xs)) (drop k ys) ≡ slice_cmp nat_cmp (before_zero xs) ys)
shared-on zero xs ys within = (omega arith, refl)
shared-on (suc k) [] ys within = absurd (omega arith)
shared-on (suc k) (x ∷ xs) [] within = absurd (omega (arith, shared-nil (x ∷ xs)))
shared-on (suc k) (x ∷ xs) (y ∷ ys) within =
    let next = goes_on (x == 0) (x == y) (shared xs ys) k (omega (arith, shared-first x y xs ys)) in
    let rest = shared-on k xs ys next.2 in (
      rw (next.0, next.1) (omega (arith, rest.0)),
      rest.1 ∙ sym (rw next.0 (same-order x y (before_zero xs) ys next.1)),
    )

-- what is left after those that are equal in a window
pub shared-passed : (n k : ℕ) (xs ys : List ℕ) → k ≡ shared (take n xs) (take n ys) →
    (k + shared (drop k xs) (drop k ys) ≡ shared xs ys)
    × (slice_cmp nat_cmp (before_zero (drop k xs)) (drop k ys) ≡ slice_cmp nat_cmp (before_zero xs) ys)
shared-passed n k xs ys is = shared-on k xs ys (omega (arith, is, shared-front n xs ys))

-- one window, where it is not all equal
pub shared-window : (n room k : ℕ) (xs ys : List ℕ) → length ys ≤ room → k ≡ shared (take n xs) (take n ys) → k < n →
    k ≡ shared (take room xs) ys
shared-window n room k xs ys short is l = omega (arith, is, shared-front n xs ys, shared-room room xs ys short)

-- two windows, the second at the key's end
pub shared-windows : (n room k m last : ℕ) (xs ys : List ℕ) → length ys ≤ room → last + n ≡ length ys → last ≤ n →
    k ≡ shared (take n xs) (take n ys) → n ≤ k → m ≡ shared (take n (drop last xs)) (take n (drop last ys)) →
    last + m ≡ shared (take room xs) ys
shared-windows n room k m last xs ys short ends over is all is_next =
    let first = shared-front n xs ys in
    let on = shared-on last xs ys (omega (arith, is, first)) in
    omega (
      arith,
      is_next,
      on.0,
      shared-front n (drop last xs) (drop last ys),
      shared-room room xs ys short,
      (common_prefix_len-le nat_eq (before_zero xs) ys).1,
    )
