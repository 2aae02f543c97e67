-- The fronts of a path: which texts are among them, and what a walk along them finds.
use Rattle.std.proofs.Common.{◌≡◌, ℕ, suc, ◌<◌, Bool, true, false, ◌||◌, ◌&&◌, eqb, inl, inr, List, [], ◌∷◌, ◌++◌}
use Rattle.std.proofs.Common.{length, length-append, map, bytes_eq, refl, sym, ap, ap₂, ◌∙◌, arith}
use Rattle.std.specs.List.{All, filter, flat_map, list_any, starts_with}
use Rattle.std.proofs.lemmas.Bool.{cases_eq, false_from_ne_true}
use Rattle.std.proofs.lemmas.List.Elements.{All-weaker, filter-append}
use Rattle.std.proofs.lemmas.Slice.Eq.{bytes_eq-Decides}
use Rattle.mime_base.specs.Format.Sorted.{with_key}
use Rattle.mime_base.specs.Format.SuffixTree.{fronts}
use Rattle.mime_view.proofs.HitsLemmas.FilterCounts.{length-filter_or}
use Rattle.mime_view.proofs.HitsLemmas.FilterSteps.{filter-alike, filter-back, filter-front, filters-swap}

-- whether a text is one of a list
abbrev pub is_among : List (List ℕ) → List ℕ → Bool
is_among texts text = list_any (bytes_eq text) texts

-- a text is among texts with a byte before each where it begins with the byte and its rest is among them
among_longer : (b x : ℕ) (text : List ℕ) (texts : List (List ℕ)) →
    is_among (map (λ front. b ∷ front) texts) (x ∷ text) ≡ (eqb x b && is_among texts text)
among_longer b x text [] = by_cases (eqb x b)
  where
    by_cases : (t : Bool) → false ≡ (t && false)
    by_cases true = refl
    by_cases false = refl
among_longer b x text (y ∷ texts) = rw (among_longer b x text texts) (by_cases (eqb x b))
  where
    by_cases : (t : Bool) → ((t && bytes_eq text y) || (t && is_among texts text)) ≡ (t && (bytes_eq text y || is_among texts text))
    by_cases true = refl
    by_cases false = refl

-- a text that is not empty is among the fronts of a path where the path starts with it
pub among_fronts : (text path : List ℕ) → 0 < length text → is_among (fronts path) text ≡ starts_with eqb path text
among_fronts [] path some = absurd (omega arith)
among_fronts (x ∷ text) [] some = refl
among_fronts (x ∷ []) (b ∷ path) some = rw (among_longer b x [] (fronts path)) (by_cases (eqb x b) (is_among (fronts path) []))
  where
    by_cases : (t r : Bool) → ((t && true) || (t && r)) ≡ (t && true)
    by_cases true r = refl
    by_cases false r = refl
among_fronts (x ∷ y ∷ text) (b ∷ path) some =
    rw (among_longer b x (y ∷ text) (fronts path), among_fronts (y ∷ text) path (omega arith))
    (by_cases (eqb x b) (starts_with eqb path (y ∷ text)))
  where
    by_cases : (t r : Bool) → ((t && false) || (t && r)) ≡ (t && r)
    by_cases true r = refl
    by_cases false r = refl

-- texts of which each is one byte longer than the one before
abbrev pub Lengthens : ℕ → List (List ℕ) → Type 0
Lengthens n [] = Unit {0}
Lengthens n (text ∷ texts) = (length text ≡ n) × Lengthens (suc n) texts

-- and so do they with a byte before each
Lengthens-map : (b n : ℕ) (texts : List (List ℕ)) → Lengthens n texts → Lengthens (suc n) (map (λ front. b ∷ front) texts)
Lengthens-map b n [] longer = tt
Lengthens-map b n (text ∷ texts) longer = (ap suc longer.0, Lengthens-map b (suc n) texts longer.1)

-- the fronts of a path are such texts
pub Lengthens-fronts : (path : List ℕ) → Lengthens 1 (fronts path)
Lengthens-fronts [] = tt
Lengthens-fronts (b ∷ path) = (refl, Lengthens-map b 1 (fronts path) (Lengthens-fronts path))

-- a text shorter than the first is none of them
shorter-not_among : (n : ℕ) (text : List ℕ) (texts : List (List ℕ)) → Lengthens n texts → length text < n →
    is_among texts text ≡ false
shorter-not_among n text [] longer short = refl
shorter-not_among n text (other ∷ texts) longer short =
    let apart : bytes_eq text other ≡ false = false_from_ne_true _ (λ same.
    (let is = (bytes_eq-Decides text other).0 same in
    let size : length other ≡ n = longer.0 in absurd (omega (arith, ap length is)))) in
    rw apart (shorter-not_among (suc n) text texts longer.1 (omega arith))

module _ {X : Type 0} (key : X → List ℕ) where
  -- the members of each of some keys, by key
  abbrev pub by_keys : List (List ℕ) → List X → List X
  by_keys texts xs = flat_map (λ text. with_key key text xs) texts

  -- what a filter keeps of them
  pub filter-by_keys : (p : X → Bool) (texts : List (List ℕ)) (xs : List X) → filter p (by_keys texts xs) ≡ by_keys texts (filter p xs)
  filter-by_keys p [] xs = refl
  filter-by_keys p (text ∷ texts) xs =
      filter-append p (with_key key text xs) (by_keys texts xs)
      ∙ ap₂ ◌++◌ (filters-swap p (λ x. bytes_eq (key x) text) xs) (filter-by_keys p texts xs)

  -- of members whose keys have one length, they keep their order: one of the keys alone has any
  pub by_keys-level : (n k : ℕ) (texts : List (List ℕ)) → Lengthens n texts → (xs : List X) → All (λ x. length (key x) ≡ k) xs →
      by_keys texts xs ≡ filter (λ x. is_among texts (key x)) xs
  by_keys-level n k [] longer xs level = sym (filter-alike (λ x. false) false xs (λ i d within. refl))
  by_keys-level n k (text ∷ texts) longer xs level =
      ap (λ ys. with_key key text xs ++ ys) (by_keys-level (suc n) k texts longer.1 xs level)
      ∙ elim (cases_eq n k) [
        | inl here ↦ (let none : All (λ x. is_among texts (key x) ≡ false) xs = All-weaker (λ x. length (key x) ≡ k)
            (λ x. is_among texts (key x) ≡ false)
            (λ x size. shorter-not_among (suc n) (key x) texts longer.1 (omega arith)) xs level in
            filter-back (λ x. bytes_eq (key x) text) (λ x. is_among texts (key x)) xs none)
        | inr elsewhere ↦ (let none : All (λ x. bytes_eq (key x) text ≡ false) xs = All-weaker (λ x. length (key x) ≡ k)
            (λ x. bytes_eq (key x) text ≡ false)
            (λ x size. false_from_ne_true _ (λ same. elsewhere (let is = (bytes_eq-Decides (key x) text).0 same in
            let long : length text ≡ n = longer.0 in omega (arith, ap length is)))) xs level in
            filter-front (λ x. bytes_eq (key x) text) (λ x. is_among texts (key x)) xs none)
      ]

  -- how many they are: each is counted by its own key alone
  pub length-by_keys : (n : ℕ) (texts : List (List ℕ)) → Lengthens n texts → (xs : List X) →
      length (by_keys texts xs) ≡ length (filter (λ x. is_among texts (key x)) xs)
  length-by_keys n [] longer xs = ap length (sym (filter-alike (λ x. false) false xs (λ i d within. refl)))
  length-by_keys n (text ∷ texts) longer xs =
      let apart = λ (x : X) (same : bytes_eq (key x) text ≡ true). (let is = (bytes_eq-Decides (key x) text).0 same in
      let long : length text ≡ n = longer.0 in shorter-not_among (suc n) (key x) texts longer.1 (omega (arith, ap length is))) in
      omega (
        arith,
        length-append (with_key key text xs) (by_keys texts xs),
        length-by_keys (suc n) texts longer.1 xs,
        length-filter_or (λ x. bytes_eq (key x) text) (λ x. is_among texts (key x)) apart xs,
      )
