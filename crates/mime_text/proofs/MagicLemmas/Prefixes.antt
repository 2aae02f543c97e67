-- What stands after a front, and after the row up to a newline.
use Rattle.std.proofs.Common.{◌≡◌, ℕ, zero, suc, ◌+◌, ◌<◌, true, false, eqb, List, [], ◌∷◌, ◌++◌, length, take, drop, get_or, Option, Some}
use Rattle.std.proofs.Common.{None, MatchOption, Result, Ok, Err, refl, sym, ap, subst, ◌∙◌, ◌==◌, ◌||◌, eq-eqb, true≢false, arith, inl, inr}
use Rattle.std.specs.Prelude.{◌≢◌, slice_index}
use Rattle.std.proofs.lemmas.Bool.{and_from, eqb-true, eqb-false, lt-ltb, ne_eqb, cases_Bool, cond-true, cond-false}
use Rattle.memchr.specs.Find.{IsFirstByte, is_byte}
use Rattle.mime_text.specs.declared.magic.fault.Fault.{Fault}
use Rattle.mime_text.specs.declared.magic.fault.MagicFaultKind.TheVariants.{Truncated}
use Rattle.mime_text.specs.Magic.Reading.{◌>>=◌, fault_at, after_prefix, unsized, short, sized, or_else, marker_at, may_be_marker, row_at}
use Rattle.mime_text.specs.Magic.Text.{NoNewline}
use Rattle.mime_text.proofs.MagicLemmas.Steps.{bind_ok, bind_on, chosen, ok_is}

-- after a prefix comes the rest
pub after_prefix_only : (p rest : List ℕ) → after_prefix p (p ++ rest) ≡ Some rest
unfolding after_prefix
after_prefix_only [] rest = refl
after_prefix_only (b ∷ p) rest = cond-true (eqb b b) _ _ (eq-eqb b b refl) ∙ after_prefix_only p rest

-- what is found after a prefix is the rest, after that prefix
pub after_prefix_found : (p bytes rest : List ℕ) → after_prefix p bytes ≡ Some rest → bytes ≡ p ++ rest
unfolding after_prefix
after_prefix_found [] bytes rest e = cc
after_prefix_found (b ∷ p) [] rest e = absurd cc
after_prefix_found (b ∷ p) (c ∷ bytes) rest e =
    elim (chosen (eqb c b) (after_prefix p bytes) None (Some rest) e) [
      | inl h ↦ let q = after_prefix_found p bytes rest h.1 in let r : c ≡ b = eqb-true c b h.0 in cc
      | inr h ↦ let q = h.1 in absurd cc
    ]

-- `strip_prefix` gives what comes after the prefix
pub after_prefix_is : (p bytes : List ℕ) (o : Option (List ℕ)) → MatchOption o ((rest : List ℕ) → bytes ≢ p ++ rest) (λ x. bytes ≡ p ++ x)
    → after_prefix p bytes ≡ o
after_prefix_is p bytes (Some x) h = ap (after_prefix p) h ∙ after_prefix_only p x
after_prefix_is p bytes None h =
    let go : (o : Option (List ℕ)) → after_prefix p bytes ≡ o → after_prefix p bytes ≡ None = λ o.
    elim o as (λ o. after_prefix p bytes ≡ o → after_prefix p bytes ≡ None) [
      | Some x ↦ λ e. absurd (h x (after_prefix_found p bytes x e))
      | None ↦ λ e. e
    ] in
    go (after_prefix p bytes) refl

-- where the first two spellings of a marker don't stand, only the third is left
pub marker_last : (bytes : List ℕ) → after_prefix unsized bytes ≡ None → after_prefix short bytes ≡ None
    → marker_at bytes ≡ after_prefix sized bytes
unfolding marker_at
marker_last bytes a b =
    ap (λ (o : Option (List ℕ)). or_else o (or_else (after_prefix short bytes) (after_prefix sized bytes))) a
    ∙ ap (λ (o : Option (List ℕ)). or_else o (after_prefix sized bytes)) b

-- the bytes of a marker have the fourth byte or the fifth of one
no_marker : (bytes : List ℕ) → may_be_marker bytes ≡ false → 4 < length bytes →
    ((slice_index bytes 3 == 95) || (slice_index bytes 4 == 11)) ≡ true → ⊥
no_marker bytes other long is = true≢false (sym (and_from _ _ (lt-ltb 4 (length bytes) long) is) ∙ other)

-- none stands where neither byte is
pub marker_none : (bytes : List ℕ) → may_be_marker bytes ≡ false → marker_at bytes ≡ None
marker_none bytes other =
    marker_last bytes
    (after_prefix_is unsized bytes None (λ rest e. no_marker (unsized ++ rest) (rw e at other) (omega arith) refl))
    (after_prefix_is short bytes None (λ rest e. no_marker (short ++ rest) (rw e at other) (omega arith) refl))
    ∙ after_prefix_is sized bytes None (λ rest e. no_marker (sized ++ rest) (rw e at other) (omega arith) refl)

-- ---- rows

-- a row that is read ends in a newline and has none
pub row_found : (bytes : List ℕ) (x : List ℕ × List ℕ) → row_at bytes ≡ Ok x → (bytes ≡ x.0 ++ 10 ∷ x.1) × NoNewline x.0
unfolding row_at
row_found [] x e = absurd cc
row_found (b ∷ bytes) x e =
    elim (chosen (eqb b 10) (Ok ([], bytes)) (row_at bytes >>= λ row. Ok (b ∷ row.0, row.1)) (Ok x) e) [
      | inl h ↦
          let is : b ≡ 10 = eqb-true b 10 h.0 in
          subst (λ (y : List ℕ × List ℕ). (b ∷ bytes ≡ y.0 ++ 10 ∷ y.1) × NoNewline y.0) (ok_is ([], bytes) x h.1)
          (ap (λ (k : ℕ). k ∷ bytes) is, tt)
      | inr h ↦
          let a = bind_ok (row_at bytes) (λ row. Ok (b ∷ row.0, row.1)) x h.1 in
          let r = row_found bytes a.0 a.1 in
          subst (λ (y : List ℕ × List ℕ). (b ∷ bytes ≡ y.0 ++ 10 ∷ y.1) × NoNewline y.0) (ok_is (b ∷ a.0.0, a.0.1) x a.2)
          (ap (λ (t : List ℕ). b ∷ t) r.0, (eqb-false b 10 h.0, r.1))
    ]

-- a row goes on with any other byte
row_on : (b : ℕ) (bytes front rest : List ℕ) → eqb b 10 ≡ false → row_at bytes ≡ Ok (front, rest)
    → row_at (b ∷ bytes) ≡ Ok (b ∷ front, rest)
unfolding row_at
row_on b bytes front rest other e = cond-false (eqb b 10) _ _ other ∙ bind_on (row_at bytes) (front, rest) _ (b ∷ front, rest) e refl

-- a row without a newline, before one, is read
pub row_only : (row rest : List ℕ) → NoNewline row → row_at (row ++ 10 ∷ rest) ≡ Ok (row, rest)
unfolding row_at
row_only [] rest is = refl
row_only (b ∷ row) rest is = row_on b (row ++ 10 ∷ rest) row rest (ne_eqb b 10 is.0) (row_only row rest is.1)

-- the row ends at the first newline
row_cut : (bytes : List ℕ) (k : ℕ) → k < length bytes → ((j : ℕ) → j < k → eqb (get_or bytes j 0) 10 ≡ true → ⊥)
    → eqb (get_or bytes k 0) 10 ≡ true → row_at bytes ≡ Ok (take k bytes, drop (k + 1) bytes)
unfolding row_at
row_cut [] k low before at = absurd (omega arith)
row_cut (b ∷ bytes) zero low before at = cond-true (eqb b 10) _ _ at
row_cut (b ∷ bytes) (suc k) low before at =
    let other : eqb b 10 ≡ false = elim (cases_Bool (eqb b 10)) [ inl is ↦ absurd (before 0 (omega arith) is) | inr is ↦ is ] in
    let rest : row_at bytes ≡ Ok (take k bytes, drop (k + 1) bytes) =
    row_cut bytes k (omega arith) (λ j lt. before (suc j) (omega arith)) at in
    let n : suc k + 1 ≡ suc (k + 1) = omega arith in
    row_on b bytes (take k bytes) (drop (k + 1) bytes) other rest ∙ sym (ap (λ (m : ℕ). Ok (b ∷ take k bytes, drop m (b ∷ bytes))) n)

-- without a newline there is no row
row_none : (bytes : List ℕ) → ((j : ℕ) → j < length bytes → eqb (get_or bytes j 0) 10 ≡ true → ⊥)
    → row_at bytes ≡ Err (fault_at Truncated 0)
unfolding row_at
row_none [] never = refl
row_none (b ∷ bytes) never =
    let other : eqb b 10 ≡ false = elim (cases_Bool (eqb b 10)) [ inl is ↦ absurd (never 0 (omega arith) is) | inr is ↦ is ] in
    cond-false (eqb b 10) _ _ other
    ∙ ap (λ (r : Result (List ℕ × List ℕ) Fault). r >>= λ row. Ok (b ∷ row.0, row.1))
    (row_none bytes (λ j lt. never (suc j) (omega arith)))

-- a search for the first newline gives the row before it
pub row_searched : (bytes : List ℕ) (o : Option ℕ) → IsFirstByte (is_byte 10) bytes o
    → MatchOption o (row_at bytes ≡ Err (fault_at Truncated 0))
    (λ k. (k < length bytes) × (row_at bytes ≡ Ok (take k bytes, drop (k + 1) bytes)))
row_searched bytes None first = row_none bytes (λ j lt. first j (omega arith) lt)
row_searched bytes (Some k) first = (first.0.high, row_cut bytes k first.0.high (λ j lt. first.0.before j (omega arith) lt) first.1)
