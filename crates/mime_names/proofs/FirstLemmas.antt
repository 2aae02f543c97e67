-- Items by falling numbers: those of the first's number are those of the greatest, and numbers that are alike give one order.
use Rattle.std.proofs.Common.{◌≡◌, ℕ, suc, ◌≤◌, ◌==◌, Bool, true, false, cond, ltb, List, [], ◌∷◌, length, map, max, refl, sym, ap, ap₂, subst, ◌∙◌, arith}
use Rattle.std.specs.Prelude.{None, Some}
use Rattle.std.specs.List.{All, AllByRecursion, filter, slice_get}
use Rattle.std.proofs.lemmas.List.{map-id}
use Rattle.std.proofs.lemmas.Simd.{map-map}
use Rattle.mime_base.specs.Falling.{falling, insert_falling}
use Rattle.mime_base.specs.Kept.{greatest, of_greatest}
use Rattle.mime_base.proofs.FallingLemmas.Order.{Falls, falling-map, falls_falling, filter_falling}
use Rattle.mime_base.proofs.KeptLemmas.Greatest.{of_greatest-map}

module _ {X : Type 0} (f : X → ℕ) where
  -- the greatest number with an item more at its place
  greatest-insert : (x : X) (ys : List X) → greatest f (insert_falling f x ys) ≡ max (f x) (greatest f ys)
  greatest-insert x [] = refl
  greatest-insert x (y ∷ ys) = by_test (ltb (f x) (f y)) (greatest-insert x ys)
    where
      by_test : (t : Bool) → greatest f (insert_falling f x ys) ≡ max (f x) (greatest f ys) →
          greatest f (cond t (y ∷ insert_falling f x ys) (x ∷ y ∷ ys)) ≡ max (f x) (max (f y) (greatest f ys))
      by_test true rest = omega (arith, rest)
      by_test false rest = refl

  -- in any order it is the same
  greatest-falling : (xs : List X) → greatest f (falling f xs) ≡ greatest f xs
  greatest-falling [] = refl
  greatest-falling (x ∷ xs) = greatest-insert x (falling f xs) ∙ ap (max (f x)) (greatest-falling xs)

  -- none is above a bound of all
  greatest-within : (n : ℕ) (xs : List X) → AllByRecursion (λ x. f x ≤ n) xs → greatest f xs ≤ n
  greatest-within n [] all = omega arith
  greatest-within n (x ∷ xs) all = let rest = greatest-within n xs all.1 in let first = all.0 in omega arith

  -- by falling numbers those of the first's are those of the greatest
  best-first : (first : X) (more xs : List X) → first ∷ more ≡ falling f xs → filter (λ x. f x == f first) (first ∷ more) ≡ of_greatest f xs
  best-first first more xs is =
      let falls : Falls f (first ∷ more) = subst (Falls f) (sym is) (falls_falling f xs) in
      let within = greatest-within (f first) more falls.0 in
      let same : greatest f (first ∷ more) ≡ greatest f xs = ap (greatest f) is ∙ greatest-falling xs in
      let top : f first ≡ greatest f xs = omega (arith, within, same) in
      ap (λ (n : ℕ). filter (λ x. f x == n) (first ∷ more)) top ∙ ap (filter (λ x. f x == greatest f xs)) is
      ∙ filter_falling f (greatest f xs) xs

  -- the same, of the item at the first place
  pub best-at_first : (first : X) (sorted xs : List X) → Some first ≡ slice_get sorted 0 → sorted ≡ falling f xs →
      filter (λ x. f x == f first) sorted ≡ of_greatest f xs
  best-at_first first [] xs at is = absurd cc
  best-at_first first (other ∷ more) xs at is =
      let same : other ≡ first = cc in
      subst (λ (top : X). filter (λ x. f x == f top) (other ∷ more) ≡ of_greatest f xs) same (best-first other more xs is)

  -- where there is none, none has the greatest
  pub best-none : (sorted xs : List X) → None ≡ slice_get sorted 0 → sorted ≡ falling f xs → 0 ≡ length (of_greatest f xs)
  best-none sorted [] at is = refl
  best-none [] (x ∷ xs) at is = absurd (omega (arith, ap length is, length-insert x (falling f xs)))
    where
      length-insert : (y : X) (ys : List X) → length (insert_falling f y ys) ≡ suc (length ys)
      length-insert y [] = refl
      length-insert y (z ∷ zs) =
          elim (ltb (f y) (f z)) as (λ t. length (cond t (z ∷ insert_falling f y zs) (y ∷ z ∷ zs)) ≡ suc (suc (length zs)))
          [ true ↦ ap suc (length-insert y zs) | false ↦ refl ]
  best-none (other ∷ more) (x ∷ xs) at is = absurd cc

module _ {X : Type 0} where
  -- an item beside its number
  abbrev beside : (X → ℕ) → X → ℕ × X
  beside f x = (f x, x)

  -- the items alone
  items-beside : (f : X → ℕ) (xs : List X) → map (λ pair. pair.1) (map (beside f) xs) ≡ xs
  items-beside f xs = map-map (λ (pair : ℕ × X). pair.1) (beside f) xs ∙ map-id xs

  -- two numbers that are alike for each
  module _ (f g : X → ℕ) where
    same-beside : (xs : List X) → All (λ x. f x ≡ g x) xs → map (beside f) xs ≡ map (beside g) xs
    same-beside [] alike = refl
    same-beside (x ∷ xs) alike =
        ap₂ (λ (pair : ℕ × X) pairs. pair ∷ pairs) (ap (λ n. (n, x)) (alike 0 x (omega arith)))
        (same-beside xs (λ k y within. alike (suc k) y (omega (arith, within))))

  -- items in order by their numbers beside them
  falling-beside : (f : X → ℕ) (xs : List X) → falling f xs ≡ map (λ pair. pair.1) (falling (λ pair. pair.0) (map (beside f) xs))
  falling-beside f xs =
      sym (items-beside f (falling f xs)) ∙ ap (map (λ (pair : ℕ × X). pair.1)) (falling-map (beside f) (λ (pair : ℕ × X). pair.0) xs)

  -- those of the greatest number likewise
  greatest-beside : (f : X → ℕ) (xs : List X) → of_greatest f xs ≡ map (λ pair. pair.1) (of_greatest (λ pair. pair.0) (map (beside f) xs))
  greatest-beside f xs =
      sym (items-beside f (of_greatest f xs))
      ∙ ap (map (λ (pair : ℕ × X). pair.1)) (sym (of_greatest-map (λ (pair : ℕ × X). pair.0) (beside f) xs))

  -- numbers that are alike give one order
  pub falling-each : (f g : X → ℕ) (xs : List X) → All (λ x. f x ≡ g x) xs → falling f xs ≡ falling g xs
  falling-each f g xs alike =
      falling-beside f xs
      ∙ ap (λ pairs. map (λ (pair : ℕ × X). pair.1) (falling (λ (pair : ℕ × X). pair.0) pairs)) (same-beside f g xs alike)
      ∙ sym (falling-beside g xs)

  -- and the same of the greatest
  pub greatest-each : (f g : X → ℕ) (xs : List X) → All (λ x. f x ≡ g x) xs → of_greatest f xs ≡ of_greatest g xs
  greatest-each f g xs alike =
      greatest-beside f xs
      ∙ ap (λ pairs. map (λ (pair : ℕ × X). pair.1) (of_greatest (λ (pair : ℕ × X). pair.0) pairs)) (same-beside f g xs alike)
      ∙ sym (greatest-beside g xs)
