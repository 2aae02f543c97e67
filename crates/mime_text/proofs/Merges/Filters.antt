-- Filters of filters and of maps, and tests of what filters leave.
use Rattle.std.proofs.Common.{◌≡◌, Bool, true, false, not, ◌&&◌, ◌||◌, cond, List, [], ◌∷◌, map, ap, ◌∙◌, refl, ⊎_elim}
use Rattle.std.proofs.lemmas.Bool.{and_from, and_parts, cases_Bool, cond-true, cond-false, not_from_false, not_from_true, or_from, or_parts}
use Rattle.std.specs.List.{filter, list_all, list_any}

module _ {X : Type 0} where
  -- a filter of what a filter leaves
  pub filter-filter : (p q : X → Bool) (xs : List X) → filter p (filter q xs) ≡ filter (λ x. q x && p x) xs
  filter-filter p q [] = refl
  filter-filter p q (x ∷ xs) =
      let both = λ (y : X). q y && p y in
      elim (q x) as (λ t. filter p (cond t (x ∷ filter q xs) (filter q xs)) ≡ cond (t && p x) (x ∷ filter both xs) (filter both xs))
      [ true ↦ ap (λ ys. cond (p x) (x ∷ ys) ys) (filter-filter p q xs) | false ↦ filter-filter p q xs ]

  -- a filter that all pass
  pub filter-all : (p : X → Bool) → ((x : X) → p x ≡ true) → (xs : List X) → filter p xs ≡ xs
  filter-all p passes [] = refl
  filter-all p passes (x ∷ xs) = cond-true _ _ _ (passes x) ∙ ap (λ ys. x ∷ ys) (filter-all p passes xs)

  -- none is left that passes where none passed
  pub list_any-filter : (p q : X → Bool) (xs : List X) → list_any p xs ≡ false → list_any p (filter q xs) ≡ false
  list_any-filter p q [] none = refl
  list_any-filter p q (x ∷ xs) none =
      let parts = or_parts (p x) (list_any p xs) none in
      let later = list_any-filter p q xs parts.1 in
      elim (q x) as (λ t. list_any p (cond t (x ∷ filter q xs) (filter q xs)) ≡ false)
      [ true ↦ or_from _ _ parts.0 later | false ↦ later ]

  -- none passes of those that don't
  pub list_any-others : (p : X → Bool) (xs : List X) → list_any p (filter (λ x. not (p x)) xs) ≡ false
  list_any-others p [] = refl
  list_any-others p (x ∷ xs) =
      let others = filter (λ y. not (p y)) xs in
      ⊎_elim (λ (is : p x ≡ true). ap (list_any p) (cond-false (not (p x)) (x ∷ others) others (not_from_true _ is)) ∙ list_any-others p xs)
      (λ (is_not : p x ≡ false). ap (list_any p) (cond-true (not (p x)) (x ∷ others) others (not_from_false _ is_not))
      ∙ or_from _ _ is_not (list_any-others p xs))
      (cases_Bool (p x))

  -- what is left passes where all passed
  pub list_all-filter : (p q : X → Bool) (xs : List X) → list_all p xs ≡ true → list_all p (filter q xs) ≡ true
  list_all-filter p q [] all = refl
  list_all-filter p q (x ∷ xs) all =
      let parts = and_parts (p x) (list_all p xs) all in
      let later = list_all-filter p q xs parts.1 in
      elim (q x) as (λ t. list_all p (cond t (x ∷ filter q xs) (filter q xs)) ≡ true)
      [ true ↦ and_from _ _ parts.0 later | false ↦ later ]

module _ {X Y : Type 0} (f : X → Y) where
  -- a filter of what f gives
  pub filter-map : (p : Y → Bool) (xs : List X) → filter p (map f xs) ≡ map f (filter (λ x. p (f x)) xs)
  filter-map p [] = refl
  filter-map p (x ∷ xs) =
      let kept = filter (λ y. p (f y)) xs in
      elim (p (f x)) as (λ t. cond t (f x ∷ filter p (map f xs)) (filter p (map f xs)) ≡ map f (cond t (x ∷ kept) kept))
      [ true ↦ ap (λ ys. f x ∷ ys) (filter-map p xs) | false ↦ filter-map p xs ]

  -- a test of what f gives
  pub list_any-map : (p : Y → Bool) (xs : List X) → list_any p (map f xs) ≡ list_any (λ x. p (f x)) xs
  list_any-map p [] = refl
  list_any-map p (x ∷ xs) = ap (λ b. p (f x) || b) (list_any-map p xs)
