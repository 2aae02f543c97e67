-- The parents of all types that have one are as many as the pairs.
use Rattle.std.proofs.Common.{◌≡◌, ℕ, ◌+◌, Bool, true, false, cond, ◌||◌, List, [], ◌∷◌, length, map, sum_by, bytes_eq, refl, ap, sym, subst, ◌∙◌, arith, true≢false, IsPermutation}
use Rattle.std.specs.List.{AllByRecursion, IsDistinct}
use Rattle.std.specs.Set.{is_member}
use Rattle.std.proofs.lemmas.Cmp.{nat_list_eq_equiv}
use Rattle.std.proofs.lemmas.List.Sorted.{list_any-IsPermutation}
use Rattle.std.proofs.lemmas.List.Sums.{sum_by-cons}
use Rattle.std.proofs.lemmas.Map.Keys.{IsDistinct-IsPermutation, IsDistinct-head, IsDistinct-tail}
use Rattle.std.proofs.lemmas.Slice.Eq.{bytes_eq-Decides}
use Rattle.mime_base.specs.Database.Subclass.{parents}
use Rattle.mime_base.specs.Format.Parents.{subclasses}
use Rattle.mime_base.proofs.FormatLemmas.DistinctTexts.{unique_distinct, unique_member}

-- pairs of texts
abbrev Pairs : Type 0
Pairs = List (List ℕ × List ℕ)

-- one for a type that is the text
abbrev one_of : List ℕ → List ℕ → ℕ
one_of text kind = cond (bytes_eq text kind) 1 0

-- how many parents a type has
abbrev pub parent_count : Pairs → List ℕ → ℕ
parent_count pairs kind = length (parents pairs kind)

-- none of those that differ is the text
none_is : (text : List ℕ) (kinds : List (List ℕ)) → AllByRecursion (λ kind. bytes_eq text kind ≡ false) kinds
    → sum_by (one_of text) kinds ≡ 0
none_is text [] apart = refl
none_is text (kind ∷ kinds) apart =
    omega (
      arith,
      sum_by-cons (one_of text) kind kinds,
      ap {B = ℕ} (λ (t : Bool). cond t 1 0) apart.0,
      none_is text kinds apart.1,
    )

-- one of distinct types is a text that is one of them
one_is : (text : List ℕ) (kinds : List (List ℕ)) → IsDistinct bytes_eq kinds → is_member bytes_eq kinds text ≡ true
    → sum_by (one_of text) kinds ≡ 1
one_is text [] distinct member = absurd (true≢false (sym member))
one_is text (kind ∷ kinds) distinct member =
    by (bytes_eq text kind) refl member (λ among. one_is text kinds (IsDistinct-tail bytes_eq kind kinds distinct) among)
  where
    by : (test : Bool) → bytes_eq text kind ≡ test → (test || is_member bytes_eq kinds text) ≡ true
        → (is_member bytes_eq kinds text ≡ true → sum_by (one_of text) kinds ≡ 1) → sum_by (one_of text) (kind ∷ kinds) ≡ 1
    by true same among more =
        let here : kind ≡ text = sym ((bytes_eq-Decides text kind).0 same) in
        let others = subst (λ (k : List ℕ). AllByRecursion (λ y. bytes_eq k y ≡ false) kinds) here
        (IsDistinct-head bytes_eq kind kinds distinct) in
        omega (arith, sum_by-cons (one_of text) kind kinds, ap {B = ℕ} (λ (t : Bool). cond t 1 0) same, none_is text kinds others)
    by false same among more =
        omega (arith, sum_by-cons (one_of text) kind kinds, ap {B = ℕ} (λ (t : Bool). cond t 1 0) same, more among)

-- one more pair is one more parent of its type
count_more : (pair : List ℕ × List ℕ) (pairs : Pairs) (kind : List ℕ)
    → parent_count (pair ∷ pairs) kind ≡ one_of pair.0 kind + parent_count pairs kind
unfolding parents
count_more pair pairs kind =
    elim (bytes_eq pair.0 kind) as (λ t.
    length (cond t (pair.1 ∷ parents pairs kind) (parents pairs kind)) ≡ cond t 1 0 + length (parents pairs kind))
    [ true ↦ omega arith | false ↦ omega arith ]

-- of all types
sum_more : (pair : List ℕ × List ℕ) (pairs : Pairs) (kinds : List (List ℕ))
    → sum_by (parent_count (pair ∷ pairs)) kinds ≡ sum_by (one_of pair.0) kinds + sum_by (parent_count pairs) kinds
sum_more pair pairs [] = refl
sum_more pair pairs (kind ∷ kinds) =
    omega (
      arith,
      sum_by-cons (parent_count (pair ∷ pairs)) kind kinds,
      sum_by-cons (one_of pair.0) kind kinds,
      sum_by-cons (parent_count pairs) kind kinds,
      count_more pair pairs kind,
      sum_more pair pairs kinds,
    )

-- without pairs there are none
sum_none : (kinds : List (List ℕ)) → sum_by (parent_count []) kinds ≡ 0
unfolding parents
sum_none [] = refl
sum_none (kind ∷ kinds) = omega (arith, sum_by-cons (parent_count []) kind kinds, sum_none kinds)

-- a test that holds later
or_later : (s t : Bool) → t ≡ true → (s || t) ≡ true
or_later true t is = refl
or_later false t is = is

-- of distinct types, among which those of all pairs are
sum_of : (kinds : List (List ℕ)) (pairs : Pairs) → IsDistinct bytes_eq kinds
    → ((text : List ℕ) → is_member bytes_eq (map (λ pair. pair.0) pairs) text ≡ true → is_member bytes_eq kinds text ≡ true)
    → sum_by (parent_count pairs) kinds ≡ length pairs
sum_of kinds [] distinct among = sum_none kinds
sum_of kinds (pair ∷ pairs) distinct among =
    let here : is_member bytes_eq (map (λ pair. pair.0) (pair ∷ pairs)) pair.0 ≡ true =
    ap (λ (t : Bool). t || is_member bytes_eq (map (λ pair. pair.0) pairs) pair.0) (nat_list_eq_equiv.refl pair.0) in
    omega (
      arith,
      sum_more pair pairs kinds,
      one_is pair.0 kinds distinct (among pair.0 here),
      sum_of kinds pairs distinct
          (λ text is. among text (or_later (bytes_eq text pair.0) (is_member bytes_eq (map (λ pair. pair.0) pairs) text) is)),
    )

-- of the types that have a parent
pub parents_sum : (pairs : Pairs) (kinds : List (List ℕ)) → IsPermutation (subclasses pairs) kinds
    → sum_by (parent_count pairs) kinds ≡ length pairs
parents_sum pairs kinds permuted =
    sum_of kinds pairs
    (IsDistinct-IsPermutation bytes_eq nat_list_eq_equiv.symm (subclasses pairs) kinds permuted
    (unique_distinct (map (λ pair. pair.0) pairs)))
    (λ text is. sym (list_any-IsPermutation (bytes_eq text) (subclasses pairs) kinds permuted)
    ∙ unique_member (map (λ pair. pair.0) pairs) text ∙ is)
