-- Lists of texts without equal members: the distinct members of a list, and lists with the same members.
use Rattle.std.proofs.Common.{◌≡◌, ℕ, Bool, true, false, List, [], ◌∷◌, ◌++◌, true≢false, ⊎_elim, refl, sym, ap, subst, ◌∙◌}
use Rattle.std.specs.Prelude.{◌||◌, IsPermutation, bytes_eq}
use Rattle.std.specs.List.{AllByRecursion, IsDistinct}
use Rattle.std.specs.Set.{distinct_count, is_member, unique_keys}
use Rattle.std.proofs.lemmas.Bool.{cases_Bool}
use Rattle.std.proofs.lemmas.Cmp.{nat_list_eq_equiv}
use Rattle.std.proofs.lemmas.List.Folds.{list_any-append}
use Rattle.std.proofs.lemmas.List.Sorted.{IsPermutation-cons, IsPermutation-middle, IsPermutation-refl, IsPermutation-sym}
use Rattle.std.proofs.lemmas.List.Sorted.{IsPermutation-trans}
use Rattle.std.proofs.lemmas.Map.Keys.{IsDistinct-IsPermutation}
use Rattle.std.proofs.lemmas.Map.Made.{length-from_keys}
use Rattle.std.proofs.lemmas.Slice.Eq.{bytes_eq-Decides}

-- the distinct members are the members
pub unique_member : (texts : List (List ℕ)) (text : List ℕ)
    → is_member bytes_eq (unique_keys bytes_eq texts) text ≡ is_member bytes_eq texts text
unique_member [] text = refl
unique_member (first ∷ texts) text = by_member (is_member bytes_eq texts first) refl (unique_member texts text)
  where
    by_same : (same : Bool) → bytes_eq text first ≡ same → is_member bytes_eq texts first ≡ true
        → is_member bytes_eq texts text ≡ (same || is_member bytes_eq texts text)
    by_same true same member = ap (is_member bytes_eq texts) ((bytes_eq-Decides text first).0 same) ∙ member
    by_same false same member = refl

    by_member : (member : Bool) → is_member bytes_eq texts first ≡ member
        → is_member bytes_eq (unique_keys bytes_eq texts) text ≡ is_member bytes_eq texts text
        → is_member bytes_eq (unique_keys bytes_eq (first ∷ texts)) text ≡ is_member bytes_eq (first ∷ texts) text
    by_member true member more = rw member (more ∙ by_same (bytes_eq text first) refl member)
    by_member false member more = rw member (ap (λ (rest : Bool). bytes_eq text first || rest) more)

-- a text that is not a member differs from each
apart : (text : List ℕ) (texts : List (List ℕ)) → is_member bytes_eq texts text ≡ false
    → AllByRecursion (λ other. bytes_eq text other ≡ false) texts
apart text [] none = tt
apart text (first ∷ texts) none = by_same (bytes_eq text first) refl none (apart text texts)
  where
    by_same : (same : Bool) → bytes_eq text first ≡ same → (same || is_member bytes_eq texts text) ≡ false
        → (is_member bytes_eq texts text ≡ false → AllByRecursion (λ other. bytes_eq text other ≡ false) texts)
        → AllByRecursion (λ other. bytes_eq text other ≡ false) (first ∷ texts)
    by_same true same none more = absurd (true≢false none)
    by_same false same none more = (same, more none)

-- the distinct members differ
pub unique_distinct : (texts : List (List ℕ)) → IsDistinct bytes_eq (unique_keys bytes_eq texts)
unfolding IsDistinct
unique_distinct [] = tt
unique_distinct (first ∷ texts) = by_member (is_member bytes_eq texts first) refl (unique_distinct texts)
  where
    by_member : (member : Bool) → is_member bytes_eq texts first ≡ member → IsDistinct bytes_eq (unique_keys bytes_eq texts)
        → IsDistinct bytes_eq (unique_keys bytes_eq (first ∷ texts))
    by_member true member more = rw member more
    by_member false member more = rw member (apart first (unique_keys bytes_eq texts) (unique_member texts first ∙ member), more)

-- lists with the same members have as many distinct ones
pub distinct_same : (xs ys : List (List ℕ)) → ((q : List ℕ) → is_member bytes_eq xs q ≡ is_member bytes_eq ys q)
    → distinct_count bytes_eq xs ≡ distinct_count bytes_eq ys
distinct_same xs ys h = length-from_keys nat_list_eq_equiv (unique_keys bytes_eq xs) ys (unique_distinct xs) (λ q. unique_member xs q ∙ h q)

-- a member stands somewhere
member_split : (ys : List (List ℕ)) (x : List ℕ) → is_member bytes_eq ys x ≡ true
    → (us vs : List (List ℕ)) × (ys ≡ us ++ x ∷ vs)
member_split [] x h = absurd (cc)
member_split (y ∷ ys) x h =
    ⊎_elim (λ (t : bytes_eq x y ≡ true). ([], ys, ap (λ z. z ∷ ys) (sym ((bytes_eq-Decides x y).0 t))))
    (λ (f : bytes_eq x y ≡ false). let more = member_split ys x (sym (ap (λ (t : Bool). t || is_member bytes_eq ys x) f) ∙ h) in
    (y ∷ more.0, more.1, ap (λ zs. y ∷ zs) more.2))
    (cases_Bool (bytes_eq x y))

-- what differs from each is no member
lacks : (x : List ℕ) (ys : List (List ℕ)) → AllByRecursion (λ y. bytes_eq x y ≡ false) ys → is_member bytes_eq ys x ≡ false
lacks x [] h = refl
lacks x (y ∷ ys) h = rw h.0 (lacks x ys h.1)

-- what is left has the same members once an equal member is taken out of both
left_members : (x : List ℕ) (xs us vs : List (List ℕ)) → is_member bytes_eq xs x ≡ false → is_member bytes_eq (us ++ vs) x ≡ false
    → ((q : List ℕ) → is_member bytes_eq (x ∷ xs) q ≡ is_member bytes_eq (us ++ x ∷ vs) q)
    → (q : List ℕ) → is_member bytes_eq xs q ≡ is_member bytes_eq (us ++ vs) q
left_members x xs us vs none none' h q =
    ⊎_elim (λ (t : bytes_eq q x ≡ true). let e = (bytes_eq-Decides q x).0 t in
    ap (is_member bytes_eq xs) e ∙ none ∙ sym (ap (is_member bytes_eq (us ++ vs)) e ∙ none'))
    (λ (f : bytes_eq q x ≡ false).
    sym (ap (λ (t : Bool). t || is_member bytes_eq xs q) f) ∙ h q ∙ list_any-append (bytes_eq q) us (x ∷ vs)
    ∙ ap (λ (t : Bool). is_member bytes_eq us q || (t || is_member bytes_eq vs q)) f ∙ sym (list_any-append (bytes_eq q) us vs))
    (cases_Bool (bytes_eq q x))

-- lists without equal members that have the same members are one another's permutations
pub distinct_permutation : (xs ys : List (List ℕ)) → IsDistinct bytes_eq xs → IsDistinct bytes_eq ys
    → ((q : List ℕ) → is_member bytes_eq xs q ≡ is_member bytes_eq ys q) → IsPermutation xs ys
unfolding IsDistinct
distinct_permutation [] [] d d' h = IsPermutation-refl []
distinct_permutation [] (y ∷ ys) d d' h =
    absurd (let bad : false ≡ true = h y ∙ ap (λ (t : Bool). t || is_member bytes_eq ys y) (nat_list_eq_equiv.refl y) in cc)
distinct_permutation (x ∷ xs) ys d d' h =
    let has : is_member bytes_eq ys x ≡ true = sym (h x) ∙ ap (λ (t : Bool). t || is_member bytes_eq xs x) (nat_list_eq_equiv.refl x) in
    let split = member_split ys x has in
    let us = split.0 in
    let vs = split.1 in
    let middle = IsPermutation-middle us x vs in
    let d'' : IsDistinct bytes_eq (x ∷ (us ++ vs)) =
    IsDistinct-IsPermutation bytes_eq nat_list_eq_equiv.symm (us ++ x ∷ vs) (x ∷ (us ++ vs)) middle
    (subst (IsDistinct bytes_eq) split.2 d') in
    let h' : (q : List ℕ) → is_member bytes_eq (x ∷ xs) q ≡ is_member bytes_eq (us ++ x ∷ vs) q =
    λ q. h q ∙ ap (λ zs. is_member bytes_eq zs q) split.2 in
    let rest = distinct_permutation xs (us ++ vs) d.1 d''.1 (left_members x xs us vs (lacks x xs d.0) (lacks x (us ++ vs) d''.0) h') in
    subst (IsPermutation (x ∷ xs)) (sym split.2)
    (IsPermutation-trans (x ∷ xs) (x ∷ (us ++ vs)) (us ++ x ∷ vs) (IsPermutation-cons x xs (us ++ vs) rest)
    (IsPermutation-sym (us ++ x ∷ vs) (x ∷ (us ++ vs)) middle))
