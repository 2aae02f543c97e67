-- The pairs of each run are all pairs of its first text.
use Rattle.std.proofs.Common.{◌≡◌, ℕ, ◌<◌, Bool, true, false, ◌||◌, List, [], ◌∷◌, ◌++◌, ⊎_elim, length}
use Rattle.std.proofs.Common.{map, refl, sym, ap, subst, ◌∙◌, arith, bytes_eq}
use Rattle.std.specs.Set.{is_member}
use Rattle.std.proofs.lemmas.Bool.{cases_Bool}
use Rattle.std.proofs.lemmas.Cmp.{nat_list_eq_equiv}
use Rattle.std.proofs.lemmas.List.{append-nil}
use Rattle.std.proofs.lemmas.List.Elements.{filter-append}
use Rattle.std.proofs.lemmas.Slice.Eq.{bytes_eq-Decides}
use Rattle.mime_base.specs.Format.Runs.{AreRuns, OfKind, PlainRun, first_text}
use Rattle.mime_base.specs.Format.Sorted.{with_key}
use Rattle.mime_base.proofs.FormatLemmas.RunKinds.{Pairs}

-- all pairs of a run have its type
with_own : (kind : List ℕ) (run : Pairs) → OfKind kind run → with_key first_text kind run ≡ run
with_own kind [] of = refl
with_own kind (pair ∷ run) of =
    let own : bytes_eq pair.0 kind ≡ true = ap (λ (k : List ℕ). bytes_eq k kind) of.0 ∙ nat_list_eq_equiv.refl kind in
    rw own (ap (λ ps. pair ∷ ps) (with_own kind run of.1))

-- none of them has another
with_other : (kind other : List ℕ) (run : Pairs) → OfKind kind run → bytes_eq kind other ≡ false → with_key first_text other run ≡ []
with_other kind other [] of ne = refl
with_other kind other (pair ∷ run) of ne =
    let none : bytes_eq pair.0 other ≡ false = ap (λ (k : List ℕ). bytes_eq k other) of.0 ∙ ne in
    rw none (with_other kind other run of.1 ne)

-- pairs none of which has the type
with_none : (kind : List ℕ) (rest : Pairs) → is_member bytes_eq (map first_text rest) kind ≡ false → with_key first_text kind rest ≡ []
with_none kind [] none = refl
with_none kind (pair ∷ rest) none =
    ⊎_elim (λ (t : bytes_eq kind pair.0 ≡ true). absurd
    (let bad : true ≡ false = sym (ap (λ (u : Bool). u || is_member bytes_eq (map first_text rest) kind) t) ∙ none in cc))
    (λ (f : bytes_eq kind pair.0 ≡ false).
    let none' = sym (ap (λ (u : Bool). u || is_member bytes_eq (map first_text rest) kind) f) ∙ none in
    let f' : bytes_eq pair.0 kind ≡ false = nat_list_eq_equiv.symm pair.0 kind ∙ f in
    rw f' (with_none kind rest none'))
    (cases_Bool (bytes_eq kind pair.0))

-- the pairs of each run are all pairs of its kind
abbrev pub Whole : Pairs → List PlainRun → Type 0
Whole pairs [] = Unit {0}
Whole pairs (run ∷ runs) = (with_key first_text run.0 pairs ≡ run.1) × Whole pairs runs

-- the kind of each run is a member
kind_member : (kind : List ℕ) (run rest : Pairs) → 0 < length run → OfKind kind run
    → is_member bytes_eq (map first_text (run ++ rest)) kind ≡ true
kind_member kind [] rest some of = absurd (omega arith)
kind_member kind (pair ∷ run) rest some of =
    ap (λ (t : Bool). t || is_member bytes_eq (map first_text (run ++ rest)) kind) (ap (bytes_eq kind) of.0 ∙ nat_list_eq_equiv.refl kind)

-- runs that are whole in what comes after a run are whole in all
whole_before : (kind : List ℕ) (run rest : Pairs) (runs : List PlainRun) (more : Pairs) → OfKind kind run
    → is_member bytes_eq (map first_text more) kind ≡ false → AreRuns runs more
    → ((q : List ℕ) → is_member bytes_eq (map first_text more) q ≡ true → is_member bytes_eq (map first_text rest) q ≡ true)
    → is_member bytes_eq (map first_text rest) kind ≡ false → Whole rest runs → Whole (run ++ rest) runs
whole_before kind run rest [] more of none h sub none' w = tt
whole_before kind run rest (r ∷ runs) more of none h sub none' w =
    let has : is_member bytes_eq (map first_text rest) r.0 ≡ true =
    sub r.0 (ap (λ ps. is_member bytes_eq (map first_text ps) r.0) h.1 ∙ kind_member r.0 r.1 h.0 h.2 h.3) in
    let ne : bytes_eq kind r.0 ≡ false =
    ⊎_elim (λ (t : bytes_eq kind r.0 ≡ true). absurd (let bad : true ≡ false = sym has
    ∙ ap (is_member bytes_eq (map first_text rest)) (sym ((bytes_eq-Decides kind r.0).0 t)) ∙ none' in cc))
    (λ (f : bytes_eq kind r.0 ≡ false). f) (cases_Bool (bytes_eq kind r.0)) in
    let sub' : (q : List ℕ) → is_member bytes_eq (map first_text h.0) q ≡ true → is_member bytes_eq (map first_text rest) q ≡ true =
    λ q m. sub q (ap (λ ps. is_member bytes_eq (map first_text ps) q) h.1 ∙ member_right r.1 h.0 q m) in
    let none'' : is_member bytes_eq (map first_text h.0) kind ≡ false =
    ⊎_elim (λ (t : is_member bytes_eq (map first_text h.0) kind ≡ true). absurd (let bad : true ≡ false = sym (sub' kind t) ∙ none' in cc))
    (λ (f : is_member bytes_eq (map first_text h.0) kind ≡ false). f) (cases_Bool (is_member bytes_eq (map first_text h.0) kind)) in (
      filter-append (λ pair. bytes_eq pair.0 r.0) run rest
          ∙ ap (λ ps. ps ++ with_key first_text r.0 rest) (with_other kind r.0 run of ne) ∙ w.0,
      whole_before kind run rest runs h.0 of none'' h.5 sub' none' w.1,
    )
  where
    member_right : (run rest : Pairs) (q : List ℕ) → is_member bytes_eq (map first_text rest) q ≡ true
        → is_member bytes_eq (map first_text (run ++ rest)) q ≡ true
    member_right [] rest q m = m
    member_right (pair ∷ run) rest q m =
        elim (bytes_eq q pair.0) as
        (λ t. (t || is_member bytes_eq (map first_text (run ++ rest)) q) ≡ true) [ true ↦ refl | false ↦ member_right run rest q m ]

-- each run has all pairs of its type
pub runs_whole : (runs : List PlainRun) (pairs : Pairs) → AreRuns runs pairs → Whole pairs runs
runs_whole [] pairs h = tt
runs_whole (run ∷ runs) pairs h =
    subst (λ ps. Whole ps (run ∷ runs)) (sym h.1) (
      filter-append (λ pair. bytes_eq pair.0 run.0) run.1 h.0 ∙ ap (λ ps. ps ++ with_key first_text run.0 h.0) (with_own run.0 run.1 h.3)
          ∙ ap (λ ps. run.1 ++ ps) (with_none run.0 h.0 h.4) ∙ append-nil run.1,
      whole_before run.0 run.1 h.0 runs h.0 h.3 h.4 h.5 (λ q m. m) h.4 (runs_whole runs h.0 h.5),
    )
