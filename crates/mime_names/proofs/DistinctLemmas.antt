-- Numbers of a list, none twice, are no more than those of another list that has them all.
use Rattle.std.proofs.Common.{◌≡◌, ◌≢◌, inl, inr, ℕ, zero, suc, ◌+◌, ◌<◌, ◌≤◌, ◌==◌, Bool, true, false, cond, List, [], ◌∷◌, length}
use Rattle.std.proofs.Common.{get_or, map}
use Rattle.std.proofs.Common.{refl, sym, ap, ◌∙◌, arith}
use Rattle.std.specs.Cmp.{IsEquivalence}
use Rattle.std.specs.List.{AllPairs, Contains, filter}
use Rattle.std.specs.Set.{is_member}
use Rattle.std.proofs.lemmas.Bool.{and_parts, cases_order}
use Rattle.std.proofs.lemmas.Bool.Decides.{Decides-eqb, same_from_decides}
use Rattle.std.proofs.lemmas.List.{get_or-map, get_or_default, length-map}
use Rattle.std.proofs.lemmas.List.Elements.{Contains-get_or}
use Rattle.std.proofs.lemmas.Map.Made.{IsDistinct-from_AllPairs, is_member-Decides, is_member-filter, length-le_from_is_member}

-- the test of two numbers
abbrev same : ℕ → ℕ → Bool
same x y = x == y

-- it is an equivalence
same-laws : IsEquivalence same
same-laws = record {
  refl = λ x. (Decides-eqb x x).1 refl;
  symm = λ x y. same_from_decides (x == y) (y == x) (Decides-eqb x y)
      ((λ is. sym ((Decides-eqb y x).0 is)), (λ is. (Decides-eqb y x).1 (sym is)));
  congr = λ x y z is. ap (λ n. n == z) ((Decides-eqb x y).0 is);
}

-- no more numbers than there are in a list that has them all
pub distinct-le : (xs ys : List ℕ) → AllPairs (λ p q. p ≢ q) xs → ((p : ℕ) → Contains xs p → Contains ys p) → length xs ≤ length ys
distinct-le xs ys once inside =
    length-le_from_is_member same-laws xs ys (IsDistinct-from_AllPairs Decides-eqb xs once)
    (λ q is. (is_member-Decides Decides-eqb ys q).1 (inside q ((is_member-Decides Decides-eqb xs q).0 is)))

-- what is left of a list by a test passes it, and was there
pub filter-has : (test : ℕ → Bool) (xs : List ℕ) (q : ℕ) → Contains (filter test xs) q → Contains xs q × (test q ≡ true)
filter-has test xs q has =
    let both = sym (is_member-filter same-laws test q (λ x is. ap test ((Decides-eqb q x).0 is)) xs) ∙
    (is_member-Decides Decides-eqb (filter test xs) q).1 has in
    let parts = and_parts (is_member same xs q) (test q) both in
    ((is_member-Decides Decides-eqb xs q).0 parts.0, parts.1)

-- what is in a list that was mapped is the value of what was there
pub map-has : (f : ℕ → ℕ) (xs : List ℕ) (k : ℕ) → Contains (map f xs) k → (q : ℕ) × Contains xs q × (f q ≡ k)
map-has f xs k has =
    let inside : has.0 < length xs = omega (arith, has.1, length-map xs f) in (
      get_or xs has.0 0,
      Contains-get_or xs has.0 0 inside,
      sym (get_or-map f xs has.0 0 k inside) ∙ has.2,
    )

-- what rises from one to another of some numbers differs where they do
pub rising-distinct : (f : ℕ → ℕ) (xs : List ℕ) → AllPairs (λ p q. p ≢ q) xs → ((p q : ℕ) → Contains xs q → p < q → f p < f q) →
    AllPairs (λ p q. p ≢ q) (map f xs)
rising-distinct f xs once rises = λ i j d order within also.
    let inside : j < length xs = omega (arith, within, length-map xs f) in
    let before : i < length xs = omega (arith, order, inside) in
    let p = get_or xs i 0 in
    let q = get_or xs j 0 in
    let alike : f p ≡ f q = sym (get_or-map f xs i 0 d before) ∙ also ∙ get_or-map f xs j 0 d inside in
    elim (cases_order p q) [
      | inl one ↦ once i j 0 order inside one
      | inr (inl less) ↦ omega (arith, alike, rises p q (Contains-get_or xs j 0 inside) less)
      | inr (inr more) ↦ omega (arith, alike, rises q p (Contains-get_or xs i 0 before) more)
    ]

-- the places of the flags that are set, the first of which is at a place
abbrev pub places_of : List Bool → ℕ → List ℕ
places_of [] n = []
places_of (true ∷ flags) n = n ∷ places_of flags (suc n)
places_of (false ∷ flags) n = places_of flags (suc n)

-- a place, from the next on
again : (n p : ℕ) → suc n + p ≡ n + suc p
again n p = omega arith

-- each flag that is set has its place
pub places_of-has : (flags : List Bool) (n p : ℕ) → get_or flags p false ≡ true → Contains (places_of flags n) (n + p)
places_of-has [] n p is = absurd cc
places_of-has (true ∷ flags) n zero is = (0, omega arith, omega arith)
places_of-has (true ∷ flags) n (suc p) is =
    let has = places_of-has flags (suc n) p is in
    (suc has.0, omega (arith, has.1), get_or_default (places_of flags (suc n)) has.0 (n + suc p) (suc n + p) has.1 ∙ has.2 ∙ again n p)
places_of-has (false ∷ flags) n zero is = absurd cc
places_of-has (false ∷ flags) n (suc p) is =
    let has = places_of-has flags (suc n) p is in
    (has.0, has.1, get_or_default (places_of flags (suc n)) has.0 (n + suc p) (suc n + p) has.1 ∙ has.2 ∙ again n p)

-- there is a place for each element that passes
pub length-places_of : {X : Type 0} (test : X → Bool) (xs : List X) (n : ℕ) → length (places_of (map test xs) n) ≡ length (filter test xs)
length-places_of test [] n = refl
length-places_of {X} test (x ∷ xs) n = by_cases (test x) (length-places_of test xs (suc n))
  where
    by_cases : (b : Bool) → length (places_of (map test xs) (suc n)) ≡ length (filter test xs) →
        length (places_of (b ∷ map test xs) n) ≡ length (cond b (x ∷ filter test xs) (filter test xs))
    by_cases true rest = ap suc rest
    by_cases false rest = rest
