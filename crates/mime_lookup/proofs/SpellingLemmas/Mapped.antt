-- Lists that a function makes equal: what is filtered, and joined, of them is made equal too.
use Rattle.std.proofs.Common.{◌≡◌, Bool, true, false, cond, List, [], ◌∷◌, ◌++◌, map, refl, sym, ap, ap₂, ◌∙◌}
use Rattle.std.specs.List.{All, filter, flat_map}
use Rattle.std.proofs.lemmas.List.{map-append}
use Rattle.std.proofs.lemmas.List.Concat.{flat_map-cons}
use Rattle.std.proofs.lemmas.List.Elements.{All-head, All-tail}

module _ {X Y : Type 0} (f : X → Y) where
  -- filtering by what f gives is filtering what it gives
  pub map-filter : (p : Y → Bool) (xs : List X) → map f (filter (λ x. p (f x)) xs) ≡ filter p (map f xs)
  map-filter p [] = refl
  map-filter p (x ∷ xs) =
      elim (p (f x)) as (λ t. map f (cond t (x ∷ filter (λ y. p (f y)) xs) (filter (λ y. p (f y)) xs))
      ≡ cond t (f x ∷ filter p (map f xs)) (filter p (map f xs)))
      [ true ↦ ap (λ (ys : List Y). f x ∷ ys) (map-filter p xs) | false ↦ map-filter p xs ]

  -- of lists that f makes equal it makes equal what is filtered by what it gives
  pub filters-alike : (p : Y → Bool) (xs ys : List X) → map f xs ≡ map f ys
      → map f (filter (λ x. p (f x)) xs) ≡ map f (filter (λ x. p (f x)) ys)
  filters-alike p xs ys same = map-filter p xs ∙ ap (filter p) same ∙ sym (map-filter p ys)

  -- of lists that f makes equal, pair by pair, it makes the joined ones equal
  pub appends-alike : (xs ys us vs : List X) → map f xs ≡ map f ys → map f us ≡ map f vs → map f (xs ++ us) ≡ map f (ys ++ vs)
  appends-alike xs ys us vs first second =
      map-append f xs us ∙ ap₂ (λ (a : List Y) (b : List Y). a ++ b) first second ∙ sym (map-append f ys vs)

  -- likewise of the lists of each key
  pub flat_maps-alike : {K : Type 0} (g h : K → List X) → ((k : K) → map f (g k) ≡ map f (h k)) → (keys : List K)
      → map f (flat_map g keys) ≡ map f (flat_map h keys)
  flat_maps-alike g h same [] = refl
  flat_maps-alike g h same (k ∷ keys) =
      ap (map f) (flat_map-cons g k keys)
      ∙ appends-alike (g k) (h k) (flat_map g keys) (flat_map h keys) (same k) (flat_maps-alike g h same keys)
      ∙ sym (ap (map f) (flat_map-cons h k keys))

  -- what f tells of members, another function tells too
  pub maps-alike : {Z : Type 0} (P : X → Type 0) (g : X → Z) → ((x y : X) → P x → P y → f x ≡ f y → g x ≡ g y) → (xs ys : List X)
      → All P xs → All P ys → map f xs ≡ map f ys → map g xs ≡ map g ys
  maps-alike P g tells [] [] ps qs same = refl
  maps-alike P g tells [] (y ∷ ys) ps qs same = absurd cc
  maps-alike P g tells (x ∷ xs) [] ps qs same = absurd cc
  maps-alike {Z = Z} P g tells (x ∷ xs) (y ∷ ys) ps qs same =
      let first : f x ≡ f y = cc in
      let rest : map f xs ≡ map f ys = cc in
      ap₂ (λ (z : Z) (zs : List Z). z ∷ zs) (tells x y (All-head P x xs ps) (All-head P y ys qs) first)
      (maps-alike P g tells xs ys (All-tail P x xs ps) (All-tail P y ys qs) rest)

-- functions that agree give one list
pub maps_agree : {X Y : Type 0} (f g : X → Y) → ((x : X) → f x ≡ g x) → (xs : List X) → map f xs ≡ map g xs
maps_agree f g agree [] = refl
maps_agree {Y = Y} f g agree (x ∷ xs) = ap₂ (λ (y : Y) (ys : List Y). y ∷ ys) (agree x) (maps_agree f g agree xs)
