-- Places of entries that are added to others, in any order.
use Rattle.std.proofs.Common.{◌≡◌, ◌⊎◌, ℕ, ◌<◌, Bool, true, false, List, [], ◌∷◌, Less, Equal, Greater, nat_cmp}
use Rattle.std.proofs.Common.{inl, inr, ⊎_elim, refl, sym, ap, ◌∙◌, arith}
use Rattle.std.specs.Prelude.{◌||◌}
use Rattle.std.specs.Cmp.{nat_cmp_is}
use Rattle.std.specs.Ordering.{is_eq}
use Rattle.std.proofs.lemmas.Bool.{cases_lt}
use Rattle.mime_view.specs.Parents.{has_place, with_place}

-- the lesser of two numbers is ordered first
is_less : (a b : ℕ) → a < b → nat_cmp a b ≡ Less
is_less a b l = sym (nat_cmp_is a b Less l)

-- the greater is ordered last
is_greater : (a b : ℕ) → b < a → nat_cmp a b ≡ Greater
is_greater a b l = sym (nat_cmp_is a b Greater l)

-- equal numbers are ordered alike
is_equal : (a b : ℕ) → a ≡ b → nat_cmp a b ≡ Equal
is_equal a b e = sym (nat_cmp_is a b Equal e)

-- a number against another
against : (a b : ℕ) → (a < b) ⊎ ((a ≡ b) ⊎ (b < a))
against a b =
    ⊎_elim (λ l. inl l) (λ g. inr (⊎_elim (λ l. inr l) (λ h. inl (omega arith)) (cases_lt b a))) (cases_lt a b)

-- a lesser place and then a greater one
rising : (p q : ℕ) → p < q → (xs : List ℕ) → with_place (with_place xs q) p ≡ with_place (with_place xs p) q
rising p q l [] = rw (is_less p q l, is_greater q p l) refl
rising p q l (x ∷ xs) =
    ⊎_elim (λ b. before b (against q x)) (λ other. ⊎_elim at (λ c. after c (rising p q l xs)) other) (against p x)
  where
    before : p < x → (q < x) ⊎ ((q ≡ x) ⊎ (x < q)) → with_place (with_place (x ∷ xs) q) p ≡ with_place (with_place (x ∷ xs) p) q
    before b (inl c) = rw (is_less p x b, is_less q x c, is_less p q l, is_greater q p l) refl
    before b (inr (inl c)) = rw (is_less p x b, is_equal q x c, is_greater q p l, is_less p x b) refl
    before b (inr (inr c)) = rw (is_less p x b, is_greater q x c, is_greater q p l, is_less p x b) refl

    at : p ≡ x → with_place (with_place (x ∷ xs) q) p ≡ with_place (with_place (x ∷ xs) p) q
    at e = rw (is_equal p x e, is_greater q x (omega arith), is_equal p x e) refl

    after : x < p → with_place (with_place xs q) p ≡ with_place (with_place xs p) q
        → with_place (with_place (x ∷ xs) q) p ≡ with_place (with_place (x ∷ xs) p) q
    after c more = rw (is_greater p x c, is_greater q x (omega arith), is_greater p x c)
        (ap (λ ys. x ∷ ys) more)

-- two places, in any order
pub with_place-swapped : (p q : ℕ) (xs : List ℕ) → with_place (with_place xs q) p ≡ with_place (with_place xs p) q
with_place-swapped p q xs =
    ⊎_elim (λ l. rising p q l xs)
    (λ other. ⊎_elim (λ e. rw e refl) (λ g. sym (rising q p g xs)) other) (against p q)

-- a test twice, and two in another order
same_twice : (a b : Bool) → (a || (a || b)) ≡ (a || b)
same_twice true b = refl
same_twice false b = refl

-- of three tests the first two may change places
swapped_tests : (a b c : Bool) → (a || (b || c)) ≡ (b || (a || c))
swapped_tests true true c = refl
swapped_tests true false c = refl
swapped_tests false b c = refl

-- a place is among some with another where it is the other or among them
has_place-with : (p q : ℕ) (xs : List ℕ) → has_place (with_place xs p) q ≡ (is_eq (nat_cmp q p) || has_place xs q)
has_place-with p q [] = refl
has_place-with p q (x ∷ xs) =
    ⊎_elim before (λ other. ⊎_elim at (λ c. after c (has_place-with p q xs)) other) (against p x)
  where
    before : p < x → has_place (with_place (x ∷ xs) p) q ≡ (is_eq (nat_cmp q p) || has_place (x ∷ xs) q)
    before b = rw (is_less p x b) refl

    at : p ≡ x → has_place (with_place (x ∷ xs) p) q ≡ (is_eq (nat_cmp q p) || has_place (x ∷ xs) q)
    at e = rw (is_equal p x e, e) (sym (same_twice (is_eq (nat_cmp q x)) (has_place xs q)))

    after : x < p → has_place (with_place xs p) q ≡ (is_eq (nat_cmp q p) || has_place xs q)
        → has_place (with_place (x ∷ xs) p) q ≡ (is_eq (nat_cmp q p) || has_place (x ∷ xs) q)
    after c more = rw (is_greater p x c, more)
        (swapped_tests (is_eq (nat_cmp q x)) (is_eq (nat_cmp q p)) (has_place xs q))

-- the place itself
pub has_place-added : (p q : ℕ) (xs : List ℕ) → q ≡ p → has_place (with_place xs p) q ≡ true
has_place-added p q xs e = has_place-with p q xs ∙ rw (is_equal q p e) refl

-- another one
pub has_place-others : (p q : ℕ) (xs : List ℕ) → (q ≡ p → ⊥) → has_place (with_place xs p) q ≡ has_place xs q
has_place-others p q xs other = has_place-with p q xs ∙ by_order (against q p)
  where
    by_order : (q < p) ⊎ ((q ≡ p) ⊎ (p < q)) → (is_eq (nat_cmp q p) || has_place xs q) ≡ has_place xs q
    by_order (inl l) = rw (is_less q p l) refl
    by_order (inr (inl e)) = absurd (other e)
    by_order (inr (inr g)) = rw (is_greater q p g) refl
