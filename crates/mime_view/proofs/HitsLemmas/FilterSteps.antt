-- Filters one after another, filters of members that are alike, and two filters side by side.
use Rattle.std.proofs.Common.{◌≡◌, Bool, true, false, cond, ◌&&◌, ◌||◌, List, [], ◌∷◌, ◌++◌}
use Rattle.std.proofs.Common.{append-nil, refl, sym, ap, ◌∙◌}
use Rattle.std.specs.List.{All, filter}
use Rattle.std.proofs.lemmas.List.Elements.{All-head, All-tail, All-weaker, filter_agree}

module _ {X : Type 0} where
  -- a filter of what a filter keeps is one filter
  pub filter-filter : (p q : X → Bool) (xs : List X) → filter p (filter q xs) ≡ filter (λ x. q x && p x) xs
  filter-filter p q [] = refl
  filter-filter p q (x ∷ xs) = by_cases (q x) (filter-filter p q xs)
    where
      by_cases : (b : Bool) → filter p (filter q xs) ≡ filter (λ y. q y && p y) xs →
          filter p (cond b (x ∷ filter q xs) (filter q xs))
          ≡ cond (b && p x) (x ∷ filter (λ y. q y && p y) xs) (filter (λ y. q y && p y) xs)
      by_cases true rest = ap (λ ys. cond (p x) (x ∷ ys) ys) rest
      by_cases false rest = rest

  -- filters in any order, where a member passes all of the first exactly where it passes all of the second
  pub filters-agree : (a b c d e f g : X → Bool) → ((x : X) → (d x && c x && b x && a x) ≡ (g x && f x && e x)) → (xs : List X)
      → filter a (filter b (filter c (filter d xs))) ≡ filter e (filter f (filter g xs))
  filters-agree a b c d e f g agree xs =
      ap (λ ys. filter a (filter b ys)) (filter-filter c d xs)
      ∙ ap (filter a) (filter-filter b (λ x. d x && c x) xs)
      ∙ filter-filter a (λ x. d x && c x && b x) xs
      ∙ filter_agree _ _ agree xs
      ∙ sym (ap (filter e) (filter-filter f g xs) ∙ filter-filter e (λ x. g x && f x) xs)

  -- a test that answers alike at each member keeps all or none
  pub filter-alike : (p : X → Bool) (b : Bool) (xs : List X) → All (λ x. p x ≡ b) xs → filter p xs ≡ cond b xs []
  filter-alike p b [] alike = by_cases b
    where
      by_cases : (b : Bool) → ◌≡◌ {A = List X} [] (cond b [] [])
      by_cases true = refl
      by_cases false = refl
  filter-alike p true (x ∷ xs) alike =
      rw (All-head (λ y. p y ≡ true) x xs alike, filter-alike p true xs (All-tail (λ y. p y ≡ true) x xs alike))
  filter-alike p false (x ∷ xs) alike =
      rw (All-head (λ y. p y ≡ false) x xs alike, filter-alike p false xs (All-tail (λ y. p y ≡ false) x xs alike))

  -- two filters in either order
  pub filters-swap : (p q : X → Bool) (xs : List X) → filter p (filter q xs) ≡ filter q (filter p xs)
  filters-swap p q xs =
      filter-filter p q xs ∙ filter_agree _ _ (λ x. either_order (q x) (p x)) xs ∙ sym (filter-filter q p xs)
    where
      either_order : (a b : Bool) → (a && b) ≡ (b && a)
      either_order true true = refl
      either_order true false = refl
      either_order false true = refl
      either_order false false = refl

  -- tests that agree at each member
  filter-same : (p q : X → Bool) (xs : List X) → All (λ x. p x ≡ q x) xs → filter p xs ≡ filter q xs
  filter-same p q [] same = refl
  filter-same p q (x ∷ xs) same =
      ap (λ b. cond b (x ∷ filter p xs) (filter p xs)) (All-head (λ y. p y ≡ q y) x xs same)
      ∙ ap (λ ys. cond (q x) (x ∷ ys) ys) (filter-same p q xs (All-tail (λ y. p y ≡ q y) x xs same))

  -- the members of either of two tests, of which the second passes none
  pub filter-back : (p q : X → Bool) (xs : List X) → All (λ x. q x ≡ false) xs
      → filter p xs ++ filter q xs ≡ filter (λ x. p x || q x) xs
  filter-back p q xs none =
      ap (λ ys. filter p xs ++ ys) (filter-alike q false xs none)
      ∙ append-nil (filter p xs)
      ∙ filter-same p (λ x. p x || q x) xs
      (All-weaker (λ x. q x ≡ false) _ (λ x no. sym (ap (λ b. p x || b) no ∙ or_none (p x))) xs none)
    where
      or_none : (b : Bool) → (b || false) ≡ b
      or_none true = refl
      or_none false = refl

  -- or the first
  pub filter-front : (p q : X → Bool) (xs : List X) → All (λ x. p x ≡ false) xs
      → filter p xs ++ filter q xs ≡ filter (λ x. p x || q x) xs
  filter-front p q xs none =
      ap (λ ys. ys ++ filter q xs) (filter-alike p false xs none)
      ∙ filter-same q (λ x. p x || q x) xs
      (All-weaker (λ x. p x ≡ false) _ (λ x no. sym (ap (λ b. b || q x) no)) xs none)
