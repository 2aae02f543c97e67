-- The first entries of each key: marks, plain pairs, and that no key stands twice.
use Rattle.std.proofs.Common.{◌≡◌, ℕ, suc, ◌+◌, ◌<◌, Bool, true, false, not, ◌&&◌, ◌||◌, cond, List, [], ◌∷◌, ◌++◌, length, map, ap, ap₂, ◌∙◌, refl}
use Rattle.std.proofs.Common.{sym, append_assoc, arith, drop, get_or}
use Rattle.std.proofs.lemmas.Bool.{and_from, and_parts, not-true, not_from_false}
use Rattle.std.proofs.lemmas.Cmp.{nat_list_eq_equiv}
use Rattle.std.proofs.lemmas.List.{drop_more}
use Rattle.std.proofs.lemmas.List.Elements.{filter_agree}
use Rattle.std.specs.List.{filter, list_any}
use Rattle.mime_base.specs.Database.PlainPairs.{are_distinct_pairs, have_distinct_names, is_same_pair}
use Rattle.mime_text.proofs.Merges.Filters.{filter-all, filter-filter, filter-map, list_any-filter, list_any-others}
use Rattle.mime_text.specs.Merging.{has_same_key, has_same_name, marks, once, picked}

-- ---- keys

-- whichever comes first
same_both_ways : (left right : List ℕ × List ℕ) → is_same_pair left right ≡ is_same_pair right left
same_both_ways left right = ap₂ ◌&&◌ (nat_list_eq_equiv.symm left.0 right.0) (nat_list_eq_equiv.symm left.1 right.1)

module _ {A : Type 0} (key_of : A → List ℕ × List ℕ) where
  -- whether no key before is that of an entry
  abbrev is_new : List (List ℕ × List ℕ) → A → Bool
  is_new seen entry = not (list_any (is_same_pair (key_of entry)) seen)

  -- neither of two tests holds where not one or the other does
  not-or : (a b : Bool) → (not a && not b) ≡ not (a || b)
  not-or true b = refl
  not-or false b = refl

  -- of entries that are not the same as one, those with a new key
  new-more : (seen : List (List ℕ × List ℕ)) (entry other : A)
      → (not (has_same_key key_of entry other) && is_new seen other) ≡ is_new (key_of entry ∷ seen) other
  new-more seen entry other =
      ap (λ b. not b && is_new seen other) (same_both_ways (key_of entry) (key_of other))
      ∙ not-or (is_same_pair (key_of other) (key_of entry)) (list_any (is_same_pair (key_of other)) seen)

  -- the marked entries are the first of each key that was not seen before
  picked-marks : (seen : List (List ℕ × List ℕ)) (entries : List A)
      → picked (marks seen (map key_of entries)) entries ≡ filter (is_new seen) (once (has_same_key key_of) entries)
  picked-marks seen [] = refl
  picked-marks seen (entry ∷ entries) =
      let firsts = once (has_same_key key_of) entries in
      ap (λ rest. cond (is_new seen entry) (entry ∷ rest) rest)
      (picked-marks (key_of entry ∷ seen) entries
      ∙ sym (filter-filter (is_new seen) _ firsts ∙ filter_agree _ _ (λ other. new-more seen entry other) firsts))

  -- where none was seen
  pub picked-once : (entries : List A) → picked (marks [] (map key_of entries)) entries ≡ once (has_same_key key_of) entries
  picked-once entries = picked-marks [] entries ∙ filter-all (is_new []) (λ entry. refl) (once (has_same_key key_of) entries)

  -- there is a mark for each entry
  pub length-marks : (seen : List (List ℕ × List ℕ)) (entries : List A) → length (marks seen (map key_of entries)) ≡ length entries
  length-marks seen [] = refl
  length-marks seen (entry ∷ entries) = ap suc (length-marks (key_of entry ∷ seen) entries)

-- of fewer than two entries each is the first
pub once-few : {A : Type 0} (same : A → A → Bool) (entries : List A) → length entries < 2 → entries ≡ once same entries
once-few same [] few = refl
once-few same (entry ∷ []) few = refl
once-few same (entry ∷ other ∷ entries) few = absurd (omega arith)

-- keys that find alike mark alike
pub marks-alike : (seen others : List (List ℕ × List ℕ))
    → ((key : List ℕ × List ℕ) → list_any (is_same_pair key) seen ≡ list_any (is_same_pair key) others)
    → (keys : List (List ℕ × List ℕ)) → marks seen keys ≡ marks others keys
marks-alike seen others alike [] = refl
marks-alike seen others alike (key ∷ keys) =
    ap₂ (λ mark more. mark ∷ more) (ap not (alike key))
    (marks-alike (key ∷ seen) (key ∷ others) (λ other. ap (λ b. is_same_pair other key || b) (alike other)) keys)

-- a mark more, of the first entry that is left
pub marks-more : {A : Type 0} (key_of : A → List ℕ × List ℕ) (entries : List A) (i : ℕ) (here : A)
    → i < length entries → here ≡ get_or entries i here → (marked : List Bool) (seen new : List (List ℕ × List ℕ)) (mark : Bool)
    (key : List ℕ × List ℕ) → key ≡ key_of here → mark ≡ not (list_any (is_same_pair key) seen)
    → ((other : List ℕ × List ℕ) → list_any (is_same_pair other) new ≡ list_any (is_same_pair other) (key ∷ seen))
    → (marked ++ mark ∷ []) ++ marks new (map key_of (drop (i + 1) entries)) ≡ marked ++ marks seen (map key_of (drop i entries))
marks-more key_of entries i here inside is marked seen new mark key keyed new_mark more =
    let rest = drop (i + 1) entries in
    append_assoc marked (mark ∷ []) (marks new (map key_of rest))
    ∙ ap (λ ms. marked ++ ms) (ap₂ (λ m ms. m ∷ ms) new_mark (marks-alike new (key ∷ seen) more (map key_of rest))
    ∙ ap (marks seen) (ap (λ k. k ∷ map key_of rest) keyed ∙ ap (λ entry. map key_of (entry ∷ rest)) is
    ∙ ap (map key_of) (sym (drop_more entries i here inside))))

-- ---- plain entries

-- the first entries, by what f gives of them
pub once-map : {X Y : Type 0} (f : X → Y) (same : X → X → Bool) (equal : Y → Y → Bool) → ((x y : X) → same x y ≡ equal (f x) (f y))
    → (xs : List X) → map f (once same xs) ≡ once equal (map f xs)
once-map f same equal agree [] = refl
once-map f same equal agree (x ∷ xs) =
    ap (λ ys. f x ∷ ys) (ap (map f) (filter_agree _ _ (λ y. ap not (agree x y)) (once same xs))
    ∙ sym (filter-map f (λ y. not (equal (f x) y)) (once same xs))
    ∙ ap (filter (λ y. not (equal (f x) y))) (once-map f same equal agree xs))

-- ---- no key stands twice

module _ {A : Type 0} (same : A → A → Bool) where
  -- whether no entry is the same as an earlier one
  abbrev distinct : List A → Bool
  distinct [] = true
  distinct (x ∷ xs) = not (list_any (same x) xs) && distinct xs

  -- what is left of distinct ones is distinct
  distinct-filter : (p : A → Bool) (xs : List A) → distinct xs ≡ true → distinct (filter p xs) ≡ true
  distinct-filter p [] all = refl
  distinct-filter p (x ∷ xs) all =
      let parts = and_parts (not (list_any (same x) xs)) (distinct xs) all in
      let later = distinct-filter p xs parts.1 in
      let none = list_any-filter (same x) p xs (not-true (list_any (same x) xs) parts.0) in
      elim (p x) as (λ t. distinct (cond t (x ∷ filter p xs) (filter p xs)) ≡ true)
      [ true ↦ and_from _ _ (not_from_false _ none) later | false ↦ later ]

  -- what is kept once is distinct
  distinct-once : (xs : List A) → distinct (once same xs) ≡ true
  distinct-once [] = refl
  distinct-once (x ∷ xs) =
      and_from _ _ (not_from_false _ (list_any-others (same x) (once same xs))) (distinct-filter
      (λ y. not (same x y)) (once same xs) (distinct-once xs))

-- names
pub names_once : (pairs : List (List ℕ × List ℕ)) → have_distinct_names (once has_same_name pairs) ≡ true
names_once pairs = as_distinct (once has_same_name pairs) ∙ distinct-once has_same_name pairs
  where
    as_distinct : (ps : List (List ℕ × List ℕ)) → have_distinct_names ps ≡ distinct has_same_name ps
    as_distinct [] = refl
    as_distinct (p ∷ ps) = ap (λ b. not (list_any (has_same_name p) ps) && b) (as_distinct ps)

-- pairs
pub pairs_once : (pairs : List (List ℕ × List ℕ)) → are_distinct_pairs (once is_same_pair pairs) ≡ true
pairs_once pairs = as_distinct (once is_same_pair pairs) ∙ distinct-once is_same_pair pairs
  where
    as_distinct : (ps : List (List ℕ × List ℕ)) → are_distinct_pairs ps ≡ distinct is_same_pair ps
    as_distinct [] = refl
    as_distinct (p ∷ ps) = ap (λ b. not (list_any (is_same_pair p) ps) && b) (as_distinct ps)
