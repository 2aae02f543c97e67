-- A set in a tree, by the list of its keys.
use Rattle.std.proofs.Common.{◌≡◌, ℕ, ◌==◌, Bool, true, false, ◌&&◌, ◌||◌, List, [], ◌∷◌, map, ap, ap₂, ◌∙◌, refl, sym, Ordering, Less, Equal, Greater}
use Rattle.std.specs.BTreeSet.{insert_key}
use Rattle.std.specs.List.{list_any}
use Rattle.std.specs.Borrow.{Bor}
use Rattle.std.specs.Cmp.{tied_then, unsigned_ties}
use Rattle.std.specs.Cmp.Lexicographic.{slice_cmp}
use Rattle.std.specs.Ordering.{is_eq, match_ordering, nat_cmp, ordering_then}
use Rattle.std.specs.Str.{bytes_eq}
use Rattle.std.proofs.lemmas.Map.Text.{is_eq-slice_cmp}
use Rattle.mime_text.proofs.Merges.Filters.{list_any-map}

-- of two tests either may come first
or-swap : (a b c : Bool) → (a || (b || c)) ≡ (b || (a || c))
or-swap true true c = refl
or-swap true false c = refl
or-swap false b c = refl

-- a test may be repeated
or-again : (a b : Bool) → (a || b) ≡ (a || (a || b))
or-again true b = refl
or-again false b = refl

-- of three tests any may come first
pub or-turn : (a b c : Bool) → ((a || b) || c) ≡ (b || (a || c))
or-turn true true c = refl
or-turn true false c = refl
or-turn false b c = refl

-- what finds a key finds it in a set that has it more
pub inserted-any : {K : Type 0} (cmp : K → K → Ordering) (test : K → Bool) → ((x y : K) → cmp x y ≡ Equal → test x ≡ test y) →
    (key : K) (keys : List K) → list_any test (insert_key cmp keys key) ≡ (test key || list_any test keys)
inserted-any cmp test same key [] = refl
inserted-any cmp test same key (x ∷ keys) = by_order (cmp key x) refl (inserted-any cmp test same key keys)
  where
    by_order : (o : Ordering) → cmp key x ≡ o → list_any test (insert_key cmp keys key) ≡ (test key || list_any test keys) →
        list_any test (match_ordering o (key ∷ x ∷ keys) (x ∷ keys) (x ∷ insert_key cmp keys key))
        ≡ (test key || (test x || list_any test keys))
    by_order Less is rest = refl
    by_order Equal is rest =
        or-again (test x) (list_any test keys) ∙ ap (λ b. b || (test x || list_any test keys)) (sym (same key x is))
    by_order Greater is rest = ap (λ b. test x || b) rest ∙ or-swap (test x) (test key) (list_any test keys)

module _ {X Y : Type 0} (f : X → Y) (equal : Y → Y → Bool) where
  -- a key is found by what f gives of it
  pub found-map : (test : X → Bool) (sought : Y) → ((x : X) → test x ≡ equal sought (f x)) → (xs : List X)
      → list_any test xs ≡ list_any (equal sought) (map f xs)
  found-map test sought agree [] = refl
  found-map test sought agree (x ∷ xs) = ap₂ ◌||◌ (agree x) (found-map test sought agree xs)

  -- a key more
  pub inserted-map : (cmp : X → X → Ordering) → ((x y : X) → is_eq (cmp x y) ≡ equal (f x) (f y))
      → ((y z : Y) → equal y z ≡ true → y ≡ z) → (key : X) (xs : List X) (sought : Y)
      → list_any (equal sought) (map f (insert_key cmp xs key)) ≡ list_any (equal sought) (f key ∷ map f xs)
  inserted-map cmp agree decides key xs sought =
      list_any-map f (equal sought) (insert_key cmp xs key)
      ∙ inserted-any cmp (λ x. equal sought (f x))
      (λ x y is. ap (equal sought) (decides (f x) (f y) (sym (agree x y) ∙ ap is_eq is))) key xs
      ∙ ap (λ b. equal sought (f key) || b) (sym (list_any-map f (equal sought) xs))

-- a number and two texts compare as equal where each of them is equal
pub all-tied : (a b : ℕ) (k l p q : List ℕ) →
    is_eq (ordering_then (ordering_then (nat_cmp a b) (slice_cmp nat_cmp k l)) (slice_cmp nat_cmp p q))
    ≡ (a == b && bytes_eq k l && bytes_eq p q)
all-tied a b k l p q =
    sym (tied_then (ordering_then (nat_cmp a b) (slice_cmp nat_cmp k l)) (slice_cmp nat_cmp p q))
    ∙ ap₂ ◌&&◌ (sym (tied_then (nat_cmp a b) (slice_cmp nat_cmp k l))
    ∙ ap₂ ◌&&◌ (sym (unsigned_ties a b)) (is_eq-slice_cmp k l)) (is_eq-slice_cmp p q)

-- the order of keys of a number and two texts
abbrev pub key_cmp : ℕ × Bor (List ℕ) × Bor (List ℕ) → ℕ × Bor (List ℕ) × Bor (List ℕ) → Ordering
key_cmp x y = ordering_then (ordering_then (nat_cmp x.0 y.0) (slice_cmp nat_cmp x.1.now y.1.now)) (slice_cmp nat_cmp x.2.now y.2.now)
