-- A mark more: which types are marked then, and how many pairs are left unmarked.
use Rattle.std.proofs.Common.{append-nil, ◌≡◌, ◌⊎◌, ℕ, suc, ◌+◌, Bool, true, false, IsTrue, List, [], ◌∷◌, ◌++◌, length, bytes_eq}
use Rattle.std.proofs.Common.{refl, sym, ap, inl, inr, ⊎_elim, ◌∙◌, arith}
use Rattle.std.proofs.lemmas.Bool.{cases_Bool}
use Rattle.std.proofs.lemmas.Slice.Eq.{bytes_eq-Decides}
use Rattle.mime_base.specs.Database.Subclass.{Pairs, above, parents}
use Rattle.mime_lookup.specs.Ancestry.{Expanded, NoneLeadsTo, is_one_of, unmarked}
use Rattle.mime_lookup.proofs.AncestryLemmas.PairSteps.{is_one_of-here, is_one_of-nil, is_one_of-past, parents-here, parents-past}

-- the marks, and one type more
abbrev and_one : List (List ℕ) → List ℕ → List (List ℕ)
and_one marks kind = marks ++ kind ∷ []

-- what was marked stays so
marked_still : (marks : List (List ℕ)) (kind x : List ℕ) → IsTrue (is_one_of marks x) → IsTrue (is_one_of (and_one marks kind) x)
marked_still [] kind x is = absurd (cc (is_one_of-nil x, is))
marked_still (mark ∷ marks) kind x is =
    ⊎_elim
    (λ hit. is_one_of-here mark x (and_one marks kind) hit)
    (λ miss. is_one_of-past mark x (and_one marks kind) miss ∙ marked_still marks kind x (sym (is_one_of-past mark x marks miss) ∙ is))
    (cases_Bool (bytes_eq mark x))

-- what is marked now is
marked_now : (marks : List (List ℕ)) (kind : List ℕ) → IsTrue (is_one_of (and_one marks kind) kind)
marked_now [] kind = is_one_of-here kind kind [] ((bytes_eq-Decides kind kind).1 refl)
marked_now (mark ∷ marks) kind =
    ⊎_elim
    (λ hit. is_one_of-here mark kind (and_one marks kind) hit)
    (λ miss. is_one_of-past mark kind (and_one marks kind) miss ∙ marked_now marks kind)
    (cases_Bool (bytes_eq mark kind))

-- what is marked was before, or is marked now
marked_others : (marks : List (List ℕ)) (kind x : List ℕ) → IsTrue (is_one_of (and_one marks kind) x) →
    IsTrue (is_one_of marks x) ⊎ (x ≡ kind)
marked_others [] kind x is =
    ⊎_elim
    (λ hit. inr (sym ((bytes_eq-Decides kind x).0 hit)))
    (λ miss. absurd (cc (is_one_of-past kind x [] miss, is_one_of-nil x, is)))
    (cases_Bool (bytes_eq kind x))
marked_others (mark ∷ marks) kind x is =
    ⊎_elim
    (λ hit. inl (is_one_of-here mark x marks hit))
    (λ miss.
    ⊎_elim
    (λ old. inl (is_one_of-past mark x marks miss ∙ old))
    (λ new. inr new)
    (marked_others marks kind x (sym (is_one_of-past mark x (and_one marks kind) miss) ∙ is)))
    (cases_Bool (bytes_eq mark x))

-- at first no type is marked
pub none_marked : (pairs : Pairs) (base : List ℕ) → NoneLeadsTo (is_one_of []) pairs base
none_marked pairs base = λ kind is is_a. cc (is_one_of-nil kind, is)

-- a marked type gives nothing
pub expanded_marked : (pairs : Pairs) (kind : List ℕ) (marks queue : List (List ℕ)) → is_one_of marks kind ≡ true →
    Expanded pairs kind (is_one_of marks) (is_one_of marks) queue queue
expanded_marked pairs kind marks queue is = record {
  more = [];
  grown = sym (append-nil queue);
  all_or_none = inr (is, refl);
  marks = λ x h. inl h;
}

-- any other gives all that is above it, and is marked
pub expanded_new : (pairs : Pairs) (kind : List ℕ) (marks queue after : List (List ℕ)) → after ≡ queue ++ above pairs kind →
    Expanded pairs kind (is_one_of marks) (is_one_of (and_one marks kind)) queue after
expanded_new pairs kind marks queue after grown = record {
  more = above pairs kind;
  grown = grown;
  all_or_none = inl refl;
  marks = λ x h. ⊎_elim (λ old. inl old) (λ new. inr (new, refl)) (marked_others marks kind x h);
}

-- a pair whose type is marked, and one whose type is not
pub unmarked-marked : (pair : List ℕ × List ℕ) (pairs : List (List ℕ × List ℕ)) (marked : List ℕ → Bool) → marked pair.0 ≡ true →
    unmarked (pair ∷ pairs) marked ≡ unmarked pairs marked
unfolding unmarked
unmarked-marked pair pairs marked hit = rw hit refl

-- a pair of a type that is not marked is one more
pub unmarked-new : (pair : List ℕ × List ℕ) (pairs : List (List ℕ × List ℕ)) (marked : List ℕ → Bool) → marked pair.0 ≡ false →
    unmarked (pair ∷ pairs) marked ≡ suc (unmarked pairs marked)
unfolding unmarked
unmarked-new pair pairs marked miss = rw miss refl

-- a type that is neither marked nor the new one is not marked
still_new : (marks : List (List ℕ)) (kind x : List ℕ) → is_one_of marks x ≡ false → bytes_eq x kind ≡ false →
    is_one_of (and_one marks kind) x ≡ false
still_new marks kind x fresh other =
    ⊎_elim
    (λ is.
    ⊎_elim
    (λ old. absurd (cc (old, fresh)))
    (λ same. absurd (cc ((bytes_eq-Decides x kind).1 same, other)))
    (marked_others marks kind x is))
    (λ miss. miss)
    (cases_Bool (is_one_of (and_one marks kind) x))

-- the pairs of a type that was not marked are not left any more
pub unmarked-falls : (pairs : List (List ℕ × List ℕ)) (kind : List ℕ) (marks : List (List ℕ)) → is_one_of marks kind ≡ false →
    unmarked pairs (is_one_of (and_one marks kind)) + length (parents pairs kind) ≡ unmarked pairs (is_one_of marks)
unfolding unmarked parents
unmarked-falls [] kind marks new = omega arith
unmarked-falls (pair ∷ pairs) kind marks new =
    let rest = unmarked-falls pairs kind marks new in
    ⊎_elim
    (λ hit.
    let same : pair.0 ≡ kind = (bytes_eq-Decides pair.0 kind).0 hit in
    let before = unmarked-new pair pairs (is_one_of marks) (ap (is_one_of marks) same ∙ new) in
    let marked = ap (is_one_of (and_one marks kind)) same ∙ marked_now marks kind in
    let after = unmarked-marked pair pairs (is_one_of (and_one marks kind)) marked in
    omega (arith, rest, before, after, ap length (parents-here pair.0 pair.1 kind pairs hit)))
    (λ miss.
    let given = ap length (parents-past pair.0 pair.1 kind pairs miss) in
    ⊎_elim
    (λ old.
    omega (
      arith,
      rest,
      given,
      unmarked-marked pair pairs (is_one_of marks) old,
      unmarked-marked pair pairs (is_one_of (and_one marks kind)) (marked_still marks kind pair.0 old),
    ))
    (λ fresh.
    omega (
      arith,
      rest,
      given,
      unmarked-new pair pairs (is_one_of marks) fresh,
      unmarked-new pair pairs (is_one_of (and_one marks kind)) (still_new marks kind pair.0 fresh miss),
    ))
    (cases_Bool (is_one_of marks pair.0)))
    (cases_Bool (bytes_eq pair.0 kind))
