-- A number that fails is cut or bad, and one that is cut or bad fails.
use Rattle.std.proofs.Common.{◌≡◌, ℕ, ◌≤◌, ◌||◌, true, false, eqb, leb, List, [], ◌∷◌, ◌++◌, length, length-append, Ok, Err, refl, sym, ap}
use Rattle.std.proofs.Common.{subst, ◌∙◌, arith, inl, inr, ◌⊎◌}
use Rattle.std.proofs.lemmas.Bool.{or_cases, or_left, or_right, eqb-true, leb-true, le-leb, eq-eqb, cond-true}
use Rattle.std.proofs.lemmas.List.{append-nil}
use Rattle.mime_text.specs.declared.magic.fault.Fault.{Fault}
use Rattle.mime_text.specs.declared.magic.fault.MagicFaultKind.TheVariants.{Truncated, BadNumber}
use Rattle.mime_text.specs.Magic.Reading.{fault_at, is_digit, digits_at, judged, number_at}
use Rattle.mime_text.specs.Magic.Text.{value_of, AreDigits, IsNumber}
use Rattle.mime_text.specs.Magic.FaultTable.{IsEnded, IsBadNumber}
use Rattle.mime_text.proofs.MagicLemmas.Numbers.{Stops, digits_found, digits_only, number_found, number_only}
use Rattle.mime_text.proofs.FaultLemmas.FaultSteps.{guard_err, fault_is}

-- what is wrong with digits that are judged
judged_fails : (here f : Fault) (size : ℕ) (d : ℕ × List ℕ) → judged here size d ≡ Err f
    → ((d.1 ≡ []) × (f ≡ fault_at Truncated 0)) ⊎
    ((b : ℕ) × (rest : List ℕ) × (d.1 ≡ b ∷ rest) × (f ≡ here) × ((length d.1 ≡ size) ⊎ (4294967296 ≤ d.0)))
unfolding judged
judged_fails here f size (n, []) e = inl (refl, sym (fault_is (fault_at Truncated 0) f e))
judged_fails here f size (n, b ∷ rest) e =
    elim (guard_err (eqb (length (b ∷ rest)) size || leb 4294967296 n) here f _ e) [
      | inl g ↦ inr (
        b,
        rest,
        refl,
        sym g.1,
        elim (or_cases (eqb (length (b ∷ rest)) size) (leb 4294967296 n) g.0) [
          | inl h ↦ inl (eqb-true _ _ h)
          | inr h ↦ inr (leb-true _ _ h)
        ],
      )
      | inr g ↦ let no = g.1 in absurd cc
    ]

-- where nothing was taken, it is empty
taken_none : (bytes text rest : List ℕ) → bytes ≡ text ++ rest → length rest ≡ length bytes → text ≡ []
taken_none bytes [] rest parts same = refl
taken_none bytes (b ∷ text) rest parts same = absurd (omega (arith, ap length parts, length-append text rest))

-- a number that fails runs to the end, or is bad
pub number_fails : (bytes : List ℕ) (f : Fault) → number_at bytes ≡ Err f
    → ((f ≡ fault_at Truncated 0) × AreDigits bytes) ⊎ ((f ≡ fault_at BadNumber (length bytes)) × IsBadNumber bytes)
unfolding number_at
number_fails bytes f e =
    let d = digits_found 0 bytes in
    elim (judged_fails (fault_at BadNumber (length bytes)) f (length bytes) (digits_at 0 bytes) e) [
      | inl cut ↦
          let all : bytes ≡ d.text = d.parts ∙ ap (λ (t : List ℕ). d.text ++ t) cut.0 ∙ append-nil d.text in
          inl (cut.1, subst (λ (t : List ℕ). AreDigits t) (sym all) d.digits)
      | inr bad ↦
          let parts : bytes ≡ d.text ++ bad.0 ∷ bad.1 = d.parts ∙ ap (λ (t : List ℕ). d.text ++ t) bad.2 in
          let ends : is_digit bad.0 ≡ false = subst Stops bad.2 d.stops in
          inr (
            bad.3,
            record {
              digits = d.text;
              next = bad.0;
              ended = record { after = bad.1; whole = parts; ends = ends };
              digits_are = d.digits;
              bad = elim bad.4 [
                | inl same ↦ inl (taken_none bytes d.text (digits_at 0 bytes).1 d.parts same)
                | inr large ↦ inr (omega (arith, d.value, large))
              ];
            },
          )
    ]

-- digits up to the end are cut
pub number_cut : (bytes : List ℕ) → AreDigits bytes → number_at bytes ≡ Err (fault_at Truncated 0)
unfolding number_at judged
number_cut bytes are =
    let d : digits_at 0 bytes ≡ (value_of 0 bytes, []) = ap (digits_at 0) (sym (append-nil bytes)) ∙ digits_only 0 bytes [] are tt in
    ap (judged (fault_at BadNumber (length bytes)) (length bytes)) d

-- a bad number is told
pub number_bad : (bytes : List ℕ) → IsBadNumber bytes → number_at bytes ≡ Err (fault_at BadNumber (length bytes))
unfolding number_at judged
number_bad bytes is =
    let rest : List ℕ = is.next ∷ is.ended.after in
    let d : digits_at 0 bytes ≡ (value_of 0 is.digits, rest) =
    ap (digits_at 0) is.ended.whole ∙ digits_only 0 is.digits rest is.digits_are is.ended.ends in
    let wrong : (eqb (length rest) (length bytes) || leb 4294967296 (value_of 0 is.digits)) ≡ true = elim is.bad [
      | inl none ↦ or_left _ _ (eq-eqb _ _ (ap length (sym (is.ended.whole ∙ ap (λ (t : List ℕ). t ++ rest) none))))
      | inr large ↦ or_right (eqb (length rest) (length bytes)) _ (le-leb _ _ large)
    ] in
    ap (judged (fault_at BadNumber (length bytes)) (length bytes)) d
    ∙ cond-true (eqb (length rest) (length bytes) || leb 4294967296 (value_of 0 is.digits)) _ _ wrong

-- a number that goes well ends at another byte
pub number_ends : (bytes : List ℕ) (x : ℕ × List ℕ) → number_at bytes ≡ Ok x
    → (text : List ℕ) × (next : ℕ) × IsNumber text x.0 × (ended : IsEnded text next bytes) × (x.1 ≡ next ∷ ended.after)
number_ends bytes (n, []) e = let k = number_found bytes (n, []) e in absurd (omega (arith, k.more))
number_ends bytes (n, b ∷ rest) e =
    let k = number_found bytes (n, b ∷ rest) e in
    (k.text, b, k.is, record { after = rest; whole = k.parts; ends = k.stops }, refl)

-- and such a number goes well
pub number_ended : (bytes text : List ℕ) (n next : ℕ) → IsNumber text n → (ended : IsEnded text next bytes)
    → number_at bytes ≡ Ok (n, next ∷ ended.after)
number_ended bytes text n next is ended = ap number_at ended.whole ∙ number_only text n next ended.after is ended.ends
