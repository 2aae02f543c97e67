-- The first texts of the runs of pairs are those of the pairs, each once, and rise.
use Rattle.std.proofs.Common.{◌≡◌, ℕ, zero, suc, ◌+◌, ◌<◌, Bool, true, false, ◌||◌, cond, List, [], ◌∷◌, ◌++◌, length}
use Rattle.std.proofs.Common.{get_or, map, refl, sym, ap, subst, ◌∙◌, arith, bytes_eq, IsPermutation}
use Rattle.std.specs.List.Sorted.{IsSortedBy}
use Rattle.std.specs.Set.{is_member, unique_keys}
use Rattle.std.proofs.lemmas.Cmp.{nat_list_eq_equiv}
use Rattle.std.proofs.lemmas.List.Sorted.{IsPermutation-map, list_any-IsPermutation}
use Rattle.mime_base.specs.Format.Parents.{subclasses}
use Rattle.mime_base.specs.Format.Runs.{AreRuns, OfKind, PlainRun, first_text}
use Rattle.mime_base.specs.Format.Sorted.{text_lt}
use Rattle.mime_base.proofs.FormatLemmas.DistinctTexts.{distinct_permutation, unique_distinct, unique_member}
use Rattle.mime_base.proofs.FormatLemmas.TextOrder.{sorted_tail}

-- pairs of texts
abbrev pub Pairs : Type 0
Pairs = List (List ℕ × List ℕ)

-- by which two pairs are compared
abbrev pub by_first : List ℕ × List ℕ → List ℕ × List ℕ → Bool
by_first left right = text_lt left.0 right.0

-- one pair more of a kind
pub of_kind-push : (kind : List ℕ) (pairs : Pairs) (pair : List ℕ × List ℕ) → OfKind kind pairs → pair.0 ≡ kind
    → OfKind kind (pairs ++ pair ∷ [])
of_kind-push kind [] pair h e = (e, tt)
of_kind-push kind (x ∷ pairs) pair h e = (h.0, of_kind-push kind pairs pair h.1 e)

-- the first texts of a run and what comes after, each once
unique_run : (kind : List ℕ) (run rest : Pairs) → 0 < length run → OfKind kind run
    → is_member bytes_eq (map first_text rest) kind ≡ false
    → unique_keys bytes_eq (map first_text (run ++ rest)) ≡ kind ∷ unique_keys bytes_eq (map first_text rest)
unique_run kind [] rest some of none = absurd (omega arith)
unique_run kind (pair ∷ []) rest some of none = rw (of.0, none) refl
unique_run kind (pair ∷ next ∷ run) rest some of none =
    let again : is_member bytes_eq (map first_text (next ∷ run ++ rest)) pair.0 ≡ true =
    ap (λ (t : Bool). t || is_member bytes_eq (map first_text (run ++ rest)) pair.0)
    (ap (bytes_eq pair.0) (of.1.0 ∙ sym of.0) ∙ nat_list_eq_equiv.refl pair.0) in
    ap (λ (t : Bool). cond t (unique_keys bytes_eq (map first_text (next ∷ run ++ rest)))
    (pair.0 ∷ unique_keys bytes_eq (map first_text (next ∷ run ++ rest)))) again
    ∙ unique_run kind (next ∷ run) rest (omega arith) of.1 none

-- the first texts of the runs are those of the pairs, each once
kinds_unique : (runs : List PlainRun) (pairs : Pairs) → AreRuns runs pairs
    → unique_keys bytes_eq (map first_text pairs) ≡ map (λ run. run.0) runs
kinds_unique [] pairs h = rw h refl
kinds_unique (run ∷ runs) pairs h =
    ap (λ ps. unique_keys bytes_eq (map first_text ps)) h.1 ∙ unique_run run.0 run.1 h.0 h.2 h.3 h.4
    ∙ ap (λ ks. run.0 ∷ ks) (kinds_unique runs h.0 h.5)

-- the types of the runs are those that have parents
pub kinds_permuted : (pairs sorted : Pairs) (runs : List PlainRun) → IsPermutation pairs sorted → AreRuns runs sorted
    → IsPermutation (subclasses pairs) (map (λ run. run.0) runs)
kinds_permuted pairs sorted runs p h =
    subst (IsPermutation (subclasses pairs)) (kinds_unique runs sorted h)
    (distinct_permutation (subclasses pairs) (unique_keys bytes_eq (map first_text sorted))
    (unique_distinct (map first_text pairs)) (unique_distinct (map first_text sorted))
    (λ q. unique_member (map first_text pairs) q
    ∙ list_any-IsPermutation (bytes_eq q) (map first_text pairs) (map first_text sorted) (IsPermutation-map first_text pairs sorted p)
    ∙ sym (unique_member (map first_text sorted) q)))

-- the first texts of the runs rise
head_of : (kind : List ℕ) (run rest : Pairs) → 0 < length run → OfKind kind run → IsSortedBy by_first (run ++ rest)
    → (d : List ℕ × List ℕ) → 0 < length rest → text_lt (get_or rest 0 d).0 kind ≡ false
head_of kind [] rest some of s d more = absurd (omega arith)
head_of kind (pair ∷ []) [] some of s d more = absurd (omega arith)
head_of kind (pair ∷ []) (next ∷ rest) some of s d more =
    ap (text_lt next.0) (sym of.0) ∙ s 0 d (omega arith) (omega arith)
head_of kind (pair ∷ next ∷ run) rest some of s d more =
    head_of kind (next ∷ run) rest (omega arith) of.1 (sorted_tail by_first pair (next ∷ run ++ rest) s) d more

-- what comes after some sorted pairs is sorted
sorted_after : (run rest : Pairs) → IsSortedBy by_first (run ++ rest) → IsSortedBy by_first rest
sorted_after [] rest s = s
sorted_after (pair ∷ run) rest s = sorted_after run rest (sorted_tail by_first pair (run ++ rest) s)

-- a text before sorted ones
sorted_cons : (x : List ℕ) (xs : List (List ℕ)) → ((d : List ℕ) → 0 < length xs → text_lt (get_or xs 0 d) x ≡ false)
    → IsSortedBy text_lt xs → IsSortedBy text_lt (x ∷ xs)
sorted_cons x xs first s zero d low within = first d (omega (arith, within))
sorted_cons x xs first s (suc k) d low within =
    let e : suc (k + 1) ≡ suc k + 1 = omega arith in
    subst (λ (n : ℕ). text_lt (get_or (x ∷ xs) n d) (get_or xs k d) ≡ false) e (s k d (omega arith) (omega (arith, within)))

-- where pairs are left, the next run has the kind of the first
next_kind : (runs : List PlainRun) (rest : Pairs) → AreRuns runs rest → (d : List ℕ) (e : List ℕ × List ℕ)
    → 0 < length (map (λ (run : PlainRun). run.0) runs)
    → (0 < length rest) × (get_or (map (λ (run : PlainRun). run.0) runs) 0 d ≡ (get_or rest 0 e).0)
next_kind [] rest h d e some = absurd (omega arith)
next_kind (run ∷ runs) rest h d e some = of_first run.0 run.1 h.0 rest h.1 h.2 h.3 e
  where
    of_first : (kind : List ℕ) (run more rest : Pairs) → rest ≡ run ++ more → 0 < length run → OfKind kind run
        → (e : List ℕ × List ℕ) → (0 < length rest) × (kind ≡ (get_or rest 0 e).0)
    of_first kind [] more rest is some of e = absurd (omega arith)
    of_first kind (pair ∷ run) more rest is some of e = rw is (omega arith, sym of.0)

-- the types of the runs of sorted pairs are sorted
pub kinds_sorted : (runs : List PlainRun) (pairs : Pairs) → AreRuns runs pairs → IsSortedBy by_first pairs
    → IsSortedBy text_lt (map (λ run. run.0) runs)
kinds_sorted [] pairs h s = λ k d low within. absurd (omega (arith, within))
kinds_sorted (run ∷ runs) pairs h s =
    let s' = subst (IsSortedBy by_first) h.1 s in
    sorted_cons run.0 (map (λ (r : PlainRun). r.0) runs)
    (λ d some. let next = next_kind runs h.0 h.5 d ([], []) some in
    ap (λ (t : List ℕ). text_lt t run.0) next.1 ∙ head_of run.0 run.1 h.0 h.2 h.3 s' ([], []) next.0)
    (kinds_sorted runs h.0 h.5 (sorted_after run.1 h.0 s'))
