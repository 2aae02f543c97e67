-- What a stable sort by a text leaves: the same members, in order, and those of one text in their old order.
use Rattle.std.proofs.Common.{◌≡◌, ℕ, zero, suc, ◌+◌, ◌<◌, Bool, true, false, not, ◌&&◌, cond, eqb, List, [], ◌∷◌, ◌⊎◌, inl, inr}
use Rattle.std.proofs.Common.{⊎_elim, length, get_or, map, filter, refl, sym, ap, subst, ◌∙◌, arith, bytes_eq, IsPermutation}
use Rattle.std.proofs.Math.Path.{fun_ext}
use Rattle.std.specs.List.Sorted.{IsSortedBy, IsStableBy, ties}
use Rattle.std.proofs.lemmas.Bool.{cases_order, cases_Bool, eq-eqb, ne_eqb, lt-ltb, le-ltb, eqb-true, and_parts}
use Rattle.std.proofs.lemmas.List.{length-map}
use Rattle.std.proofs.lemmas.List.Sorted.{IsPermutation-map}
use Rattle.mime_base.specs.Format.Sorted.{IsSortedByText, text_lt, with_key}

-- neither text is before the other just where they are the same
pub tied : (a b : List ℕ) → (not (text_lt a b) && not (text_lt b a)) ≡ bytes_eq b a
tied [] [] = refl
tied [] (y ∷ ys) = refl
tied (x ∷ xs) [] = refl
tied (x ∷ xs) (y ∷ ys) =
    ⊎_elim
    (λ (e : x ≡ y). subst
    (λ (z : ℕ). (not (text_lt (x ∷ xs) (z ∷ ys)) && not (text_lt (z ∷ ys) (x ∷ xs))) ≡ bytes_eq (z ∷ ys) (x ∷ xs)) e
    (rw (le-ltb x x (omega arith), eq-eqb x x refl) (tied xs ys)))
    (λ h. ⊎_elim
    (λ (lt : x < y). rw (lt-ltb x y lt, ne_eqb y x (λ e. omega (arith, e, lt))) refl)
    (λ (lt : y < x). rw (
      le-ltb x y (omega (arith, lt)),
      ne_eqb x y (λ e. omega (arith, e, lt)),
      lt-ltb y x lt,
      ne_eqb y x (λ e. omega (arith, e, lt)),
    ) refl)
    h)
    (cases_order x y)

-- texts that pass the test are one text
pub bytes_eq-is : (a b : List ℕ) → bytes_eq a b ≡ true → a ≡ b
bytes_eq-is [] [] h = refl
bytes_eq-is [] (y ∷ ys) h = absurd (cc)
bytes_eq-is (x ∷ xs) [] h = absurd (cc)
bytes_eq-is (x ∷ xs) (y ∷ ys) h =
    let both = and_parts (eqb x y) (bytes_eq xs ys) h in
    ap (λ (z : ℕ). z ∷ xs) (eqb-true x y both.0) ∙ ap (λ zs. y ∷ zs) (bytes_eq-is xs ys both.1)

-- a text equals itself
pub bytes_eq-same : (a : List ℕ) → bytes_eq a a ≡ true
bytes_eq-same [] = refl
bytes_eq-same (x ∷ xs) = rw (eq-eqb x x refl) (bytes_eq-same xs)

-- some member has the text, or none passes
some_or_none : {X : Type 0} (key : X → List ℕ) (text : List ℕ) (xs : List X)
    → ((x : X) × (key x ≡ text)) ⊎ (with_key key text xs ≡ [])
some_or_none key text [] = inr refl
some_or_none key text (x ∷ xs) =
    ⊎_elim (λ (t : bytes_eq (key x) text ≡ true). inl (x, bytes_eq-is (key x) text t))
    (λ (f : bytes_eq (key x) text ≡ false). ⊎_elim (λ y. inl y) (λ n. inr (rw f n)) (some_or_none key text xs))
    (cases_Bool (bytes_eq (key x) text))

-- a stable sort keeps those of one text in their order
same_ties : {X : Type 0} (key : X → List ℕ) (text : List ℕ) (x : X) → key x ≡ text → (xs ys : List X)
    → IsStableBy (λ a b. text_lt (key a) (key b)) xs ys → with_key key text ys ≡ with_key key text xs
same_ties {X = X} key text x e xs ys stable =
    let test : ties (λ a b. text_lt (key a) (key b)) x ≡ (λ (y : X). bytes_eq (key y) text) =
    fun_ext (λ y. tied (key x) (key y) ∙ ap (bytes_eq (key y)) e) in
    subst (λ (t : X → Bool). filter t ys ≡ filter t xs) test (stable x)

-- the members of each text stay in their order
pub ties_stay : {X : Type 0} (key : X → List ℕ) (xs ys : List X) → IsStableBy (λ a b. text_lt (key a) (key b)) xs ys
    → (text : List ℕ) → with_key key text ys ≡ with_key key text xs
ties_stay key xs ys stable text =
    ⊎_elim (λ x. same_ties key text x.0 x.1 xs ys stable)
    (λ n. ⊎_elim (λ x. same_ties key text x.0 x.1 xs ys stable) (λ m. n ∙ sym m) (some_or_none key text xs))
    (some_or_none key text ys)

-- the members of a text among views
pub with_key-map : {X Y : Type 0} (view : X → Y) (key : Y → List ℕ) (text : List ℕ) (xs : List X)
    → with_key key text (map view xs) ≡ map view (with_key (λ x. key (view x)) text xs)
with_key-map view key text [] = refl
with_key-map view key text (x ∷ xs) =
    rw (with_key-map view key text xs) (elim (bytes_eq (key (view x)) text) as (λ t.
    cond t (view x ∷ map view (with_key (λ x. key (view x)) text xs)) (map view (with_key (λ x. key (view x)) text xs))
    ≡ map view (cond t (x ∷ with_key (λ x. key (view x)) text xs) (with_key (λ x. key (view x)) text xs)))
    [ true ↦ refl | false ↦ refl ])

-- a member of a mapped list
get_map : {X Y : Type 0} (f : X → Y) (xs : List X) (k : ℕ) (d : Y) (e : X) → k < length xs
    → get_or (map f xs) k d ≡ f (get_or xs k e)
get_map f [] k d e lt = absurd (omega arith)
get_map f (x ∷ xs) zero d e lt = refl
get_map f (x ∷ xs) (suc k) d e lt = get_map f xs k d e (omega arith)

-- sorted by a test of what is seen of each, the list of what is seen is sorted
pub sorted_views : {X Y : Type 0} (view : X → Y) (lt : Y → Y → Bool) (xs : List X)
    → IsSortedBy (λ a b. lt (view a) (view b)) xs → IsSortedBy lt (map view xs)
sorted_views view lt [] s k d low within = absurd (omega arith)
sorted_views view lt (x ∷ xs) s k d low within =
    let long = length-map (x ∷ xs) view in
    rw (get_map view (x ∷ xs) (k + 1) d x (omega (arith, long)), get_map view (x ∷ xs) k d x (omega (arith, long)))
    (s k x low (omega (arith, long)))

-- a stable sort by a text of each view
pub sorted_by_text : {X Y : Type 0} (view : X → Y) (key : Y → List ℕ) (xs ys : List X) → IsPermutation xs ys
    → IsSortedBy (λ a b. text_lt (key (view a)) (key (view b))) ys
    → IsStableBy (λ a b. text_lt (key (view a)) (key (view b))) xs ys → IsSortedByText key (map view xs) (map view ys)
sorted_by_text view key xs ys permuted sorted stable = record {
  permuted = IsPermutation-map view xs ys permuted;
  in_order = sorted_views view (λ left right. text_lt (key left) (key right)) ys sorted;
  ties = λ text. with_key-map view key text ys ∙ ap (map view) (ties_stay (λ x. key (view x)) xs ys stable text)
      ∙ sym (with_key-map view key text xs);
}

-- the same where each holds the text itself
pub sorted_by_own_text : {X Y : Type 0} (view : X → Y) (key : Y → List ℕ) (own : X → List ℕ) → ((x : X) → own x ≡ key (view x))
    → (xs ys : List X) → IsPermutation xs ys → IsSortedBy (λ a b. text_lt (own a) (own b)) ys
    → IsStableBy (λ a b. text_lt (own a) (own b)) xs ys → IsSortedByText key (map view xs) (map view ys)
sorted_by_own_text {X = X} view key own same xs ys permuted sorted stable =
    let is : own ≡ (λ x. key (view x)) = fun_ext same in
    sorted_by_text view key xs ys permuted
    (subst (λ (f : X → List ℕ). IsSortedBy (λ a b. text_lt (f a) (f b)) ys) is sorted)
    (subst (λ (f : X → List ℕ). IsStableBy (λ a b. text_lt (f a) (f b)) xs ys) is stable)
