-- The loop that finds the runs of sorted pairs.
use Rattle.std.proofs.Common.{◌≡◌, ℕ, ◌+◌, ◌<◌, ◌≤◌, List, [], ◌∷◌, ◌++◌, length, get_or, map, take, drop, refl, sym, ap, subst, ◌∙◌}
use Rattle.std.proofs.Common.{append_assoc, arith, true, false, not, bytes_eq, ⊎_elim}
use Rattle.std.specs.List.Sorted.{IsSortedBy}
use Rattle.std.proofs.lemmas.List.{append-nil, drop-drop, drop-map, drop_all, drop_more, length-map}
use Rattle.std.proofs.lemmas.List.{map-append, take-map}
use Rattle.mime_store.specs.Runs.{EndsRun, plain_run}
use Rattle.mime_store.specs.Views.{pair_texts}
use Rattle.mime_store.specs.declared.text_pair.TextPair.{TextPair}
use Rattle.mime_store.specs.declared.run.Run.{Run}
use Rattle.mime_store.proofs.ParentsLemmas.Runs.{first_run, some_taken, sorted_drop}
use Rattle.mime_store.proofs.ListLemmas.Loops.{views_more}
use Rattle.mime_store.proofs.RulesLemmas.Sorting.{bytes_eq-is}
use Rattle.std.proofs.lemmas.Bool.{cases_Bool}
use Rattle.mime_base.specs.Format.Runs.{AreRuns, OfKind, PlainRun}
use Rattle.mime_base.proofs.FormatLemmas.RunKinds.{by_first, of_kind-push}

-- the first of what is left
first_left : (pairs : List TextPair) (at : ℕ) (d : TextPair) → at < length pairs
    → (0 < length (map pair_texts (drop at pairs)))
    × (get_or (map pair_texts (drop at pairs)) 0 (pair_texts d) ≡ pair_texts (get_or pairs at d))
first_left pairs at d lt = rw (drop_more pairs at d lt) (omega arith, refl)

-- one run more
pub runs_more : (pairs : List TextPair) (at n m : ℕ) (kind : List ℕ) (runs : List Run) (run : Run) (d : TextPair) (later : List PlainRun)
    → IsSortedBy by_first (map pair_texts pairs) → at < length pairs → n ≤ length (drop at pairs) → (get_or pairs at d).first.now ≡ kind
    → m ≡ n → plain_run run ≡ (kind, map pair_texts (take m (drop at pairs))) → OfKind kind (map pair_texts (take n (drop at pairs)))
    → EndsRun kind (map pair_texts (drop n (drop at pairs)))
    → ((later : List PlainRun) → AreRuns later (map pair_texts (drop at pairs))
    → AreRuns (map plain_run runs ++ later) (map pair_texts pairs))
    → AreRuns later (map pair_texts (drop (at + n) pairs)) → AreRuns (map plain_run (runs ++ run ∷ []) ++ later) (map pair_texts pairs)
runs_more pairs at n m kind runs run d later sorted lt within head same is of ends goes rest =
    let ps = map pair_texts (drop at pairs) in
    let sorted' : IsSortedBy by_first ps = subst (IsSortedBy by_first) (drop-map pair_texts at pairs)
    (sorted_drop at (map pair_texts pairs) sorted) in
    let taken : take n ps ≡ map pair_texts (take n (drop at pairs)) = take-map pair_texts n (drop at pairs) in
    let left : drop n ps ≡ map pair_texts (drop n (drop at pairs)) = drop-map pair_texts n (drop at pairs) in
    let left' : map pair_texts (drop (at + n) pairs) ≡ drop n ps = ap (map pair_texts) (sym (drop-drop n at pairs)) ∙ sym left in
    let first = first_left pairs at d lt in
    let runs' = first_run kind n ps (pair_texts d) later sorted' (omega (arith, length-map (drop at pairs) pair_texts)) first.0
    (ap (λ (p : List ℕ × List ℕ). p.0) first.1 ∙ head)
    (subst (OfKind kind) (sym taken) of) (subst (EndsRun kind) (sym left) ends) (subst (AreRuns later) left' rest) in
    let own : (kind, take n ps) ≡ plain_run run =
    ap (λ (t : List (List ℕ × List ℕ)). (kind, t)) (taken ∙ ap (λ (k : ℕ). map pair_texts (take k (drop at pairs))) (sym same)) ∙ sym is in
    let whole : map plain_run (runs ++ run ∷ []) ++ later ≡ map plain_run runs ++ (kind, take n ps) ∷ later =
    ap (λ l. l ++ later) (map-append plain_run runs (run ∷ [])) ∙ append_assoc (map plain_run runs) (plain_run run ∷ []) later
    ∙ ap (λ (r : PlainRun). map plain_run runs ++ r ∷ later) (sym own) in
    rw whole (goes ((kind, take n ps) ∷ later) runs')

-- something was taken
pub taken_some : (pairs : List TextPair) (at n : ℕ) (kind : List ℕ) (d : TextPair) → at < length pairs
    → (get_or pairs at d).first.now ≡ kind
    → EndsRun kind (map pair_texts (drop n (drop at pairs))) → 0 < n
taken_some pairs at n kind d lt head ends =
    let first = first_left pairs at d lt in
    some_taken kind n (map pair_texts (drop at pairs)) (pair_texts d) first.0 (ap (λ (p : List ℕ × List ℕ). p.0) first.1 ∙ head)
    (subst (EndsRun kind) (sym (drop-map pair_texts n (drop at pairs))) ends)

-- at the end no pairs are left
pub runs_end : (pairs : List TextPair) (at : ℕ) (runs : List Run) → length pairs ≤ at
    → ((later : List PlainRun) → AreRuns later (map pair_texts (drop at pairs))
    → AreRuns (map plain_run runs ++ later) (map pair_texts pairs))
    → AreRuns (map plain_run runs) (map pair_texts pairs)
runs_end pairs at runs le goes =
    subst (λ l. AreRuns l (map pair_texts pairs)) (append-nil (map plain_run runs)) (goes [] (ap (map pair_texts) (drop_all at pairs le)))

-- one pair more of a kind
pub of_kind_more : (kind : List ℕ) (pairs : List TextPair) (i : ℕ) (x : TextPair) → i < length pairs → x ≡ get_or pairs i x
    → OfKind kind (map pair_texts (take i pairs)) → x.first.now ≡ kind → OfKind kind (map pair_texts (take (i + 1) pairs))
of_kind_more kind pairs i x lt is of e =
    rw (views_more pair_texts pairs i x lt is) (of_kind-push kind (map pair_texts (take i pairs)) (pair_texts x) of e)

-- a test that two texts differ, which fails
pub same_texts : (a b : List ℕ) → false ≡ not (bytes_eq a b) → a ≡ b
same_texts a b h =
    ⊎_elim (λ (t : bytes_eq a b ≡ true). bytes_eq-is a b t)
    (λ (f : bytes_eq a b ≡ false). absurd (let bad : false ≡ true = h ∙ ap not f in cc)) (cases_Bool (bytes_eq a b))
