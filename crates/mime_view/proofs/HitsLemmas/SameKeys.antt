-- Two lists in which the members of each key are the same have the same members.
use Rattle.std.proofs.Common.{◌≡◌, Bool, true, false, cond, List, [], ◌∷◌, ◌++◌, refl, sym, ap, subst, ◌∙◌, bytes_eq, IsPermutation}
use Rattle.std.proofs.lemmas.List.Elements.{filter-append}
use Rattle.std.proofs.lemmas.List.Sorted.{IsPermutation-cons, IsPermutation-middle, IsPermutation-refl}
use Rattle.std.proofs.lemmas.List.Sorted.{IsPermutation-sym, IsPermutation-trans}
use Rattle.std.proofs.lemmas.Slice.Eq.{bytes_eq-Decides}
use Rattle.std.specs.Prelude.{ℕ}
use Rattle.mime_base.specs.Format.Sorted.{with_key}

-- a text is itself
pub bytes_eq-same : (text : List ℕ) → bytes_eq text text ≡ true
bytes_eq-same text = let d = bytes_eq-Decides text text in d.1 refl

-- where the test passes it is the same
pub same_bytes : (a b : List ℕ) → bytes_eq a b ≡ true → a ≡ b
same_bytes a b e = let d = bytes_eq-Decides a b in d.0 e

-- a list by the first of its members of a key
record Found {X : Type 0} (key : X → List ℕ) (text : List ℕ) (ys : List X) (x : X) (more : List X) : Type 0 where
  front : List X
  back : List X
  split : ys ≡ front ++ x ∷ back
  none : with_key key text front ≡ []
  rest : with_key key text back ≡ more

-- the first member of a key is found
find : {X : Type 0} (key : X → List ℕ) (text : List ℕ) (ys : List X) (x : X) (more : List X) → with_key key text ys ≡ x ∷ more
    → Found key text ys x more
find key text [] x more e = absurd cc
find {X = X} key text (y ∷ ys) x more e = by_test (bytes_eq (key y) text) refl e (find key text ys x more)
  where
    by_test : (t : Bool) → bytes_eq (key y) text ≡ t → cond t (y ∷ with_key key text ys) (with_key key text ys) ≡ x ∷ more
        → (with_key key text ys ≡ x ∷ more → Found key text ys x more) → Found key text (y ∷ ys) x more
    by_test true is e later =
        let first : y ≡ x = cc in record {
          front = [];
          back = ys;
          split = ap (λ (z : X). z ∷ ys) first;
          none = refl;
          rest = cc;
        }
    by_test false is e later =
        let found = later e in record {
          front = y ∷ found.front;
          back = found.back;
          split = ap (λ (zs : List X). y ∷ zs) found.split;
          none = rw is found.none;
          rest = found.rest;
        }

-- the members of a key without one of another key
without : {X : Type 0} (key : X → List ℕ) (text : List ℕ) (x : X) (front back : List X) → bytes_eq (key x) text ≡ false
    → with_key key text (front ++ x ∷ back) ≡ with_key key text (front ++ back)
without key text x front back is =
    filter-append (λ y. bytes_eq (key y) text) front (x ∷ back)
    ∙ rw is (sym (filter-append (λ y. bytes_eq (key y) text) front back))

-- with a first of the key
pub first_of : {X : Type 0} (key : X → List ℕ) (text : List ℕ) (x : X) (xs : List X) → bytes_eq (key x) text ≡ true
    → with_key key text (x ∷ xs) ≡ x ∷ with_key key text xs
first_of key text x xs is = rw is refl

-- with a first of another key
pub others : {X : Type 0} (key : X → List ℕ) (text : List ℕ) (x : X) (xs : List X) → bytes_eq (key x) text ≡ false
    → with_key key text (x ∷ xs) ≡ with_key key text xs
others key text x xs is = rw is refl

-- so one list is the other in another order
pub permuted : {X : Type 0} (key : X → List ℕ) (xs ys : List X) → ((text : List ℕ) → with_key key text xs ≡ with_key key text ys)
    → IsPermutation xs ys
permuted key [] [] same = IsPermutation-refl []
permuted key [] (y ∷ ys) same =
    let none = same (key y) ∙ first_of key (key y) y ys (bytes_eq-same (key y)) in absurd cc
permuted {X = X} key (x ∷ xs) ys same =
    let here : with_key key (key x) ys ≡ x ∷ with_key key (key x) xs =
    sym (same (key x)) ∙ first_of key (key x) x xs (bytes_eq-same (key x)) in
    let found = find key (key x) ys x (with_key key (key x) xs) here in
    let left : (text : List ℕ) → with_key key text xs ≡ with_key key text (found.front ++ found.back) =
    λ text. by_test found.front found.back found.split found.none found.rest text (bytes_eq (key x) text) refl in
    let rest = permuted key xs (found.front ++ found.back) left in
    let moved = IsPermutation-sym (found.front ++ x ∷ found.back) (x ∷ (found.front ++ found.back))
    (IsPermutation-middle found.front x found.back) in
    subst (λ (zs : List X). IsPermutation (x ∷ xs) zs) (sym found.split)
    (IsPermutation-trans (x ∷ xs) (x ∷ (found.front ++ found.back)) (found.front ++ x ∷ found.back)
    (IsPermutation-cons x xs (found.front ++ found.back) rest) moved)
  where
    by_test : (front back : List X) → ys ≡ front ++ x ∷ back → with_key key (key x) front ≡ []
        → with_key key (key x) back ≡ with_key key (key x) xs → (text : List ℕ) (t : Bool) → bytes_eq (key x) text ≡ t
        → with_key key text xs ≡ with_key key text (front ++ back)
    by_test front back split none rest text true is =
        subst (λ (z : List ℕ). with_key key z xs ≡ with_key key z (front ++ back)) (same_bytes (key x) text is)
        (sym rest ∙ sym (filter-append (λ y. bytes_eq (key y) (key x)) front back
        ∙ ap (λ (zs : List X). zs ++ with_key key (key x) back) none))
    by_test front back split none rest text false is =
        sym (others key text x xs is) ∙ same text ∙ ap (with_key key text) split ∙ without key text x front back is
