-- Keeping by one number and then by a second is keeping by one number that is made of both.
use Rattle.std.proofs.Common.{◌≡◌, ℕ, ◌+◌, ◌*◌, ◌<◌, ◌≤◌, ◌==◌, inl, inr, List, [], ◌∷◌, max, refl, sym, ap, ◌∙◌, arith}
use Rattle.std.specs.List.{All}
use Rattle.std.proofs.lemmas.Bool.{cases_order}
use Rattle.std.proofs.lemmas.List.Elements.{All-head, All-tail, All-filter}
use Rattle.std.proofs.Math.Nat.{mul-le-mul_left}
use Rattle.mime_base.specs.Kept.{greatest, of_greatest}
use Rattle.mime_base.proofs.KeptLemmas.Greatest.{cons-less, cons-more, cons-same, greatest-below, of_greatest-one}

-- a product of a lesser number is less by its factor
lift : (a b base : ℕ) → a < b → a * base + base ≤ b * base
lift a b base less = (let next : a + 1 ≤ b = omega arith in omega (arith, mul-le-mul_left base next))

-- keeping by one number and then by a second is keeping by one number made of both
module _ {X : Type 0} (base : ℕ) (f g : X → ℕ) where
  -- both numbers as one
  abbrev both : X → ℕ
  both x = f x * base + g x

  -- the second number of each is below the base
  abbrev Small : List X → Type 0
  Small xs = All (λ x. g x < base) xs

  -- so is the greatest second one among those with the greatest first
  second-below : (x : X) (xs : List X) → Small (x ∷ xs) → greatest g (of_greatest f xs) < base
  second-below x xs small =
      let head = All-head (λ y. g y < base) x xs small in
      greatest-below g base (of_greatest f xs) (omega arith)
      (All-filter (λ y. f y == greatest f xs) (λ y. g y < base) xs (All-tail (λ y. g y < base) x xs small))

  -- the greatest of both is the greatest first one, with the greatest second among those that have it
  greatest-both : (xs : List X) → Small xs → greatest both xs ≡ greatest f xs * base + greatest g (of_greatest f xs)
  greatest-both [] small = omega arith
  greatest-both (x ∷ xs) small =
      let rest = greatest-both xs (All-tail (λ y. g y < base) x xs small) in
      let head = All-head (λ y. g y < base) x xs small in
      let second = second-below x xs small in
      elim (cases_order (f x) (greatest f xs)) [
        | inl same ↦ (let product : f x * base ≡ greatest f xs * base = ap (λ n. n * base) same in
            let top : max (f x) (greatest f xs) * base ≡ greatest f xs * base = ap (λ n. n * base) (omega arith) in
            rw (cons-same f x xs same) (omega arith))
        | inr (inl less) ↦ (let room = lift (f x) (greatest f xs) base less in
            let top : max (f x) (greatest f xs) * base ≡ greatest f xs * base = ap (λ n. n * base) (omega arith) in
            rw (cons-less f x xs less) (omega arith))
        | inr (inr more) ↦ (let room = lift (greatest f xs) (f x) base more in
            let top : max (f x) (greatest f xs) * base ≡ f x * base = ap (λ n. n * base) (omega arith) in
            rw (cons-more f x xs more) (omega arith))
      ]

  -- keeping the greatest by one and then by the other is keeping the greatest by both
  pub of_greatest-of_greatest : (xs : List X) → Small xs → of_greatest g (of_greatest f xs) ≡ of_greatest both xs
  of_greatest-of_greatest [] small = refl
  of_greatest-of_greatest (x ∷ xs) small =
      let rest = of_greatest-of_greatest xs (All-tail (λ y. g y < base) x xs small) in
      let tops = greatest-both xs (All-tail (λ y. g y < base) x xs small) in
      let head = All-head (λ y. g y < base) x xs small in
      let second = second-below x xs small in
      elim (cases_order (f x) (greatest f xs)) [
        | inl same ↦ (let product : f x * base ≡ greatest f xs * base = ap (λ n. n * base) same in
            rw (cons-same f x xs same) (elim (cases_order (g x) (greatest g (of_greatest f xs))) [
              | inl also ↦ cons-same g x (of_greatest f xs) also ∙ ap (λ more. x ∷ more) rest ∙ sym (cons-same both x xs (omega arith))
              | inr (inl less) ↦ cons-less g x (of_greatest f xs) less ∙ rest ∙ sym (cons-less both x xs (omega arith))
              | inr (inr more) ↦ cons-more g x (of_greatest f xs) more ∙ sym (cons-more both x xs (omega arith))
            ]))
        | inr (inl less) ↦ (let room = lift (f x) (greatest f xs) base less in
            rw (cons-less f x xs less) (rest ∙ sym (cons-less both x xs (omega arith))))
        | inr (inr more) ↦ (let room = lift (greatest f xs) (f x) base more in
            rw (cons-more f x xs more) (of_greatest-one g x ∙ sym (cons-more both x xs (omega arith))))
      ]
