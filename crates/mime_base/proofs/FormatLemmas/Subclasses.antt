-- The types that have a parent: each once, and just those to which some pair gives one.
use Rattle.std.proofs.Common.{◌≡◌, ℕ, ◌<◌, Bool, true, false, List, [], ◌∷◌, length, map, get_or}
use Rattle.std.proofs.Common.{true≢false, IsPermutation, refl, sym, ◌∙◌, arith, inl, inr}
use Rattle.std.specs.Prelude.{◌||◌, bytes_eq}
use Rattle.std.specs.Set.{is_member}
use Rattle.std.proofs.lemmas.Bool.{cases_lt}
use Rattle.std.proofs.lemmas.Cmp.{nat_list_eq_equiv}
use Rattle.std.proofs.lemmas.List.Folds.{list_any_at}
use Rattle.std.proofs.lemmas.List.Sorted.{list_any-IsPermutation}
use Rattle.std.proofs.lemmas.Map.Keys.{IsDistinct-IsPermutation, apart_from_distinct}
use Rattle.std.proofs.lemmas.Slice.Eq.{bytes_eq-Decides}
use Rattle.mime_base.specs.Database.Subclass.{parents}
use Rattle.mime_base.specs.Format.Parents.{subclasses}
use Rattle.mime_base.proofs.FormatLemmas.DistinctTexts.{unique_distinct, unique_member}

-- the first texts of pairs
abbrev firsts : List (List ℕ × List ℕ) → List (List ℕ)
firsts pairs = map (λ pair. pair.0) pairs

-- a type is the first text of a pair just where it has a parent
parents-some : (pairs : List (List ℕ × List ℕ)) (kind : List ℕ) → is_member bytes_eq (firsts pairs) kind ≡ true
    → 0 < length (parents pairs kind)
unfolding parents
parents-some [] kind is = absurd (true≢false (sym is))
parents-some (pair ∷ pairs) kind is = by_first (bytes_eq kind pair.0) refl is (parents-some pairs kind)
  where
    by_first : (same : Bool) → bytes_eq kind pair.0 ≡ same → (same || is_member bytes_eq (firsts pairs) kind) ≡ true
        → (is_member bytes_eq (firsts pairs) kind ≡ true → 0 < length (parents pairs kind)) → 0 < length (parents (pair ∷ pairs) kind)
    by_first true same is more = let e = nat_list_eq_equiv.symm pair.0 kind ∙ same in rw e (omega arith)
    by_first false same is more = let e = nat_list_eq_equiv.symm pair.0 kind ∙ same in rw e (more is)

-- any other has none
pub parents-none : (pairs : List (List ℕ × List ℕ)) (kind : List ℕ) → is_member bytes_eq (firsts pairs) kind ≡ false
    → parents pairs kind ≡ []
unfolding parents
parents-none [] kind none = refl
parents-none (pair ∷ pairs) kind none = by_first (bytes_eq kind pair.0) refl none (parents-none pairs kind)
  where
    by_first : (same : Bool) → bytes_eq kind pair.0 ≡ same → (same || is_member bytes_eq (firsts pairs) kind) ≡ false
        → (is_member bytes_eq (firsts pairs) kind ≡ false → parents pairs kind ≡ []) → parents (pair ∷ pairs) kind ≡ []
    by_first true same none more = absurd (true≢false none)
    by_first false same none more = let e = nat_list_eq_equiv.symm pair.0 kind ∙ same in rw e (more none)

module _ (pairs : List (List ℕ × List ℕ)) (kinds : List (List ℕ)) (permuted : IsPermutation (subclasses pairs) kinds) where
  -- the types are just the first texts of pairs
  pub kinds-has : (kind : List ℕ) → is_member bytes_eq kinds kind ≡ is_member bytes_eq (firsts pairs) kind
  kinds-has kind = sym (list_any-IsPermutation (bytes_eq kind) (subclasses pairs) kinds permuted) ∙ unique_member (firsts pairs) kind

  -- each type stands once
  pub kinds_once : (i j : ℕ) → i < length kinds → j < length kinds → get_or kinds i [] ≡ get_or kinds j [] → i ≡ j
  kinds_once i j l m same =
      let distinct = IsDistinct-IsPermutation bytes_eq nat_list_eq_equiv.symm (subclasses pairs) kinds permuted
      (unique_distinct (firsts pairs)) in
      let equal : bytes_eq (get_or kinds i []) (get_or kinds j []) ≡ true =
      (bytes_eq-Decides (get_or kinds i []) (get_or kinds j [])).1 same in
      let back : bytes_eq (get_or kinds j []) (get_or kinds i []) ≡ true =
      nat_list_eq_equiv.symm (get_or kinds j []) (get_or kinds i []) ∙ equal in
      elim (cases_lt i j) [
        | inl before ↦ absurd (true≢false (sym equal ∙ apart_from_distinct bytes_eq kinds i j [] distinct before m))
        | inr after ↦ elim (cases_lt j i) [
          | inl behind ↦ absurd (true≢false (sym back ∙ apart_from_distinct bytes_eq kinds j i [] distinct behind l))
          | inr here ↦ (omega arith)
        ]
      ]

  -- and has a parent
  pub kinds_have_parents : (i : ℕ) → i < length kinds → 0 < length (parents pairs (get_or kinds i []))
  kinds_have_parents i l =
      let member = list_any_at (bytes_eq (get_or kinds i [])) kinds i [] l (nat_list_eq_equiv.refl (get_or kinds i [])) in
      parents-some pairs (get_or kinds i []) (sym (kinds-has (get_or kinds i [])) ∙ member)
