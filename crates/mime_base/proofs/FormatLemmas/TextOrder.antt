-- The order of texts by bytes: a lesser text is another, and two texts neither of which is less are one; and what is left of a sorted list.
use Rattle.std.proofs.Common.{◌≡◌, ℕ, suc, ◌+◌, Bool, true, false, List, ◌∷◌, Ordering, Less, Equal, Greater, nat_cmp, get_or}
use Rattle.std.proofs.Common.{true≢false, refl, sym, ap, subst, ◌∙◌, arith}
use Rattle.std.specs.Prelude.{bytes_eq}
use Rattle.std.specs.Ordering.{is_eq, is_lt, ordering_reverse}
use Rattle.std.specs.Cmp.{IsStrictWeakOrder}
use Rattle.std.specs.Cmp.Lexicographic.{slice_cmp}
use Rattle.std.specs.List.Sorted.{IsSortedBy}
use Rattle.std.proofs.lemmas.Cmp.{nat_list_cmp_total}
use Rattle.std.proofs.lemmas.List.MinMax.{ranks_by}
use Rattle.std.proofs.lemmas.Map.Text.{is_eq-slice_cmp}
use Rattle.mime_base.specs.Format.Sorted.{text_lt}

-- texts are ordered by bytes
pub text_order : IsStrictWeakOrder text_lt
text_order = ranks_by nat_list_cmp_total (λ (text : List ℕ). text)

-- a lesser text is another
pub less_differs : (a b : List ℕ) → text_lt a b ≡ true → bytes_eq a b ≡ false
less_differs a b less = sym (is_eq-slice_cmp a b) ∙ by_order (slice_cmp nat_cmp a b) less
  where
    by_order : (o : Ordering) → is_lt o ≡ true → is_eq o ≡ false
    by_order Less less = refl
    by_order Equal less = absurd (true≢false (sym less))
    by_order Greater less = refl

-- of a text that is not less, a key that is not less is the same
pub neither_less : (a b : List ℕ) → text_lt a b ≡ false → text_lt b a ≡ false → bytes_eq a b ≡ true
neither_less a b forth back =
    sym (is_eq-slice_cmp a b) ∙ by_order (slice_cmp nat_cmp a b) (slice_cmp nat_cmp b a) (nat_list_cmp_total.antisymm a b) forth back
  where
    by_order : (o back : Ordering) → o ≡ ordering_reverse back → is_lt o ≡ false → is_lt back ≡ false → is_eq o ≡ true
    by_order o Less reversed forth back = absurd (true≢false back)
    by_order o Equal reversed forth back = ap is_eq reversed
    by_order o Greater reversed forth back = absurd (true≢false (sym (ap is_lt reversed) ∙ forth))

-- a key that is a text is less than just what the text is less than
pub same_less : (a b z : List ℕ) → bytes_eq a b ≡ true → text_lt a z ≡ text_lt b z
same_less a b z same = ap is_lt (nat_list_cmp_total.congr a b z (equal (slice_cmp nat_cmp a b) (is_eq-slice_cmp a b ∙ same)))
  where
    equal : (o : Ordering) → is_eq o ≡ true → o ≡ Equal
    equal Less e = absurd (true≢false (sym e))
    equal Equal e = refl
    equal Greater e = absurd (true≢false (sym e))

-- what stands after the first of a sorted list is sorted
pub sorted_tail : {X : Type 0} (lt : X → X → Bool) (x : X) (xs : List X) → IsSortedBy lt (x ∷ xs) → IsSortedBy lt xs
sorted_tail lt x xs s k d low within =
    let e : suc k + 1 ≡ suc (k + 1) = omega arith in
    subst (λ (n : ℕ). lt (get_or (x ∷ xs) n d) (get_or xs k d) ≡ false) e (s (suc k) d (omega arith) (omega (arith, within)))
