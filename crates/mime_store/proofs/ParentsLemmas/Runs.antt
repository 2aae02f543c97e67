-- The runs of sorted pairs: they are found from the front, and say what the pairs say.
use Rattle.std.proofs.Common.{◌≡◌, ℕ, zero, suc, ◌<◌, ◌≤◌, true, false, List, [], ◌∷◌, ◌++◌, ⊎_elim}
use Rattle.std.proofs.Common.{inl, inr, length, get_or, map, take, drop, refl, sym, ap, subst, ◌∙◌, arith, bytes_eq}
use Rattle.std.specs.List.Sorted.{IsSortedBy}
use Rattle.std.specs.Set.{is_member}
use Rattle.std.proofs.lemmas.Bool.{cases_Bool}
use Rattle.std.proofs.lemmas.Cmp.{nat_list_eq_equiv}
use Rattle.std.proofs.lemmas.List.{take-append-drop}
use Rattle.mime_base.specs.Format.Runs.{AreRuns, OfKind, PlainRun, first_text}
use Rattle.mime_base.proofs.FormatLemmas.RunKinds.{by_first}
use Rattle.mime_base.proofs.FormatLemmas.TextOrder.{sorted_tail}
use Rattle.mime_store.specs.SuffixTree.{PathLe}
use Rattle.mime_store.specs.Runs.{EndsRun}
use Rattle.mime_store.proofs.SuffixTreeLemmas.Rising.{path_le}
use Rattle.mime_store.proofs.RulesLemmas.Sorting.{bytes_eq-is, bytes_eq-same}

-- pairs of texts
abbrev Pairs : Type 0
Pairs = List (List ℕ × List ℕ)

-- paths that are not before one another, in turn
le_trans : (a b c : List ℕ) → PathLe a b → PathLe b c → PathLe a c
le_trans [] b c h i = tt
le_trans (x ∷ a) [] c h i = absurd h
le_trans (x ∷ a) (y ∷ b) [] h i = absurd i
le_trans (x ∷ a) (y ∷ b) (z ∷ c) h i =
    ⊎_elim (λ (l : x < y). ⊎_elim (λ (m : y < z). inl (omega (arith, l, m))) (λ m. inl (omega (arith, l, m.0))) i)
    (λ l. ⊎_elim (λ (m : y < z). inl (omega (arith, l.0, m))) (λ m. inr (l.0 ∙ m.0, le_trans a b c l.1 m.1)) i) h

-- two paths neither of which is before the other are equal
le_antisym : (a b : List ℕ) → PathLe a b → PathLe b a → a ≡ b
le_antisym [] [] h i = refl
le_antisym [] (y ∷ b) h i = absurd i
le_antisym (x ∷ a) [] h i = absurd h
le_antisym (x ∷ a) (y ∷ b) h i =
    ⊎_elim (λ (l : x < y). ⊎_elim (λ (m : y < x). absurd (omega (arith, l, m))) (λ m. absurd (omega (arith, l, m.0))) i)
    (λ l. ⊎_elim (λ (m : y < x). absurd (omega (arith, l.0, m)))
    (λ m. ap (λ (z : ℕ). z ∷ a) l.0 ∙ ap (λ zs. y ∷ zs) (le_antisym a b l.1 m.1)) i) h

-- the first texts do not fall, from one before them
abbrev Up : List ℕ → Pairs → Type 0
Up before [] = Unit {0}
Up before (pair ∷ pairs) = PathLe before pair.0 × Up pair.0 pairs

-- sorted pairs rise from the first of them
up_sorted : (pair : List ℕ × List ℕ) (pairs : Pairs) → IsSortedBy by_first (pair ∷ pairs) → Up pair.0 pairs
up_sorted pair [] s = tt
up_sorted pair (next ∷ pairs) s =
    (path_le pair.0 next.0 (s 0 pair (omega arith) (omega arith)), up_sorted next pairs (sorted_tail by_first pair (next ∷ pairs) s))

-- what is left of sorted pairs is sorted
pub sorted_drop : (n : ℕ) (pairs : Pairs) → IsSortedBy by_first pairs → IsSortedBy by_first (drop n pairs)
sorted_drop zero pairs s = s
sorted_drop (suc n) [] s = s
sorted_drop (suc n) (pair ∷ pairs) s = sorted_drop n pairs (sorted_tail by_first pair pairs s)

-- after a run the first texts do not fall from its own
up_after : (kind : List ℕ) (run rest : Pairs) → OfKind kind run → Up kind (run ++ rest) → Up kind rest
up_after kind [] rest of up = up
up_after kind (pair ∷ run) rest of up = up_after kind run rest of.1 (subst (λ (k : List ℕ). Up k (run ++ rest)) of.0 up.1)

-- where they rise above a text, none is that text
above_lacks : (kind next : List ℕ) (pairs : Pairs) → PathLe kind next → bytes_eq kind next ≡ false → Up next pairs
    → is_member bytes_eq (map first_text pairs) kind ≡ false
above_lacks kind next [] le ne up = refl
above_lacks kind next (pair ∷ pairs) le ne up =
    let le' = le_trans kind next pair.0 le up.0 in
    let ne' : bytes_eq kind pair.0 ≡ false =
    ⊎_elim (λ (t : bytes_eq kind pair.0 ≡ true).
    let e = bytes_eq-is kind pair.0 t in
    let back : PathLe next kind = subst (PathLe next) (sym e) up.0 in
    absurd (let bad : true ≡ false = sym (ap (bytes_eq kind) (sym (le_antisym kind next le back)) ∙ bytes_eq-same kind) ∙ ne in cc))
    (λ (f : bytes_eq kind pair.0 ≡ false). f) (cases_Bool (bytes_eq kind pair.0)) in
    rw ne' (above_lacks kind pair.0 pairs le' ne' up.1)

-- after a run that ends, none has its first text
lacks_after : (kind : List ℕ) (rest : Pairs) → Up kind rest → EndsRun kind rest → is_member bytes_eq (map first_text rest) kind ≡ false
lacks_after kind [] up ends = refl
lacks_after kind (pair ∷ rest) up ends =
    let ne : bytes_eq kind pair.0 ≡ false = nat_list_eq_equiv.symm kind pair.0 ∙ ends in
    rw ne (above_lacks kind pair.0 rest up.0 ne up.1)

-- the first run of sorted pairs, before the runs of what is left
pub first_run : (kind : List ℕ) (n : ℕ) (pairs : Pairs) (d : List ℕ × List ℕ) (later : List PlainRun) → IsSortedBy by_first pairs
    → n ≤ length pairs → 0 < length pairs → (get_or pairs 0 d).0 ≡ kind → OfKind kind (take n pairs) → EndsRun kind (drop n pairs)
    → AreRuns later (drop n pairs) → AreRuns ((kind, take n pairs) ∷ later) pairs
first_run kind n [] d later s le some head of ends runs = absurd (omega arith)
first_run kind zero (pair ∷ pairs) d later s le some head of ends runs =
    absurd (let bad : true ≡ false = sym (ap (bytes_eq pair.0) (sym head) ∙ bytes_eq-same pair.0) ∙ ends in cc)
first_run kind (suc n) (pair ∷ pairs) d later s le some head of ends runs =
    let up : Up kind (drop n pairs) =
    up_after kind (take n pairs) (drop n pairs) of.1
    (subst (Up kind) (sym (take-append-drop n pairs)) (subst (λ (k : List ℕ). Up k pairs) head (up_sorted pair pairs s))) in
    (drop n pairs, ap (λ ps. pair ∷ ps) (sym (take-append-drop n pairs)), omega arith, of, lacks_after kind (drop n pairs) up ends, runs)

-- the runs so far, and what is left of the pairs
pub some_taken : (kind : List ℕ) (n : ℕ) (pairs : Pairs) (d : List ℕ × List ℕ) → 0 < length pairs → (get_or pairs 0 d).0 ≡ kind
    → EndsRun kind (drop n pairs) → 0 < n
some_taken kind n [] d some head ends = absurd (omega arith)
some_taken kind zero (pair ∷ pairs) d some head ends =
    absurd (let bad : true ≡ false = sym (ap (bytes_eq pair.0) (sym head) ∙ bytes_eq-same pair.0) ∙ ends in cc)
some_taken kind (suc n) (pair ∷ pairs) d some head ends = omega arith
