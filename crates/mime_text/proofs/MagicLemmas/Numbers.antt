-- The digits at the front of a text.
use Rattle.std.proofs.Common.{◌≡◌, ℕ, ◌+◌, ◌-◌, ◌*◌, ◌<◌, true, false, leb, List, [], ◌∷◌, ◌++◌, length, length-append, Ok, subst, eqb}
use Rattle.std.proofs.Common.{◌||◌, inl, inr, ap, sym, ◌∙◌, refl, arith}
use Rattle.std.proofs.lemmas.Bool.{cases_Bool, lt-leb, or_parts, or_from, eqb-false, ne_eqb, leb-false, cond-true, cond-false}
use Rattle.mime_text.specs.declared.magic.fault.Fault.{Fault}
use Rattle.mime_text.specs.declared.magic.fault.MagicFaultKind.TheVariants.{BadNumber}
use Rattle.mime_text.specs.Magic.Reading.{fault_at, digits_at, judged, number_at, is_digit}
use Rattle.mime_text.proofs.MagicLemmas.Steps.{guard_off, ok_is}
use Rattle.mime_text.specs.Magic.Text.{value_of, AreDigits, IsNumber}

-- reading digits goes on with a digit
pub digit_on : (n b : ℕ) (bytes : List ℕ) → is_digit b ≡ true → digits_at n (b ∷ bytes) ≡ digits_at (n * 10 + (b - 48)) bytes
unfolding digits_at
digit_on n b bytes digit = cond-true (is_digit b) _ _ digit

-- reading digits ends at another byte
pub digit_off : (n b : ℕ) (bytes : List ℕ) → is_digit b ≡ false → digits_at n (b ∷ bytes) ≡ (n, b ∷ bytes)
unfolding digits_at
digit_off n b bytes digit = cond-false (is_digit b) _ _ digit

-- reading digits ends with the text
pub digit_none : (n : ℕ) → digits_at n [] ≡ (n, [])
unfolding digits_at
digit_none n = refl

-- ---- numbers against the grammar

-- no digit comes next
abbrev pub Stops : List ℕ → Type 0
Stops [] = Unit {0}
Stops (b ∷ rest) = is_digit b ≡ false

-- the digits that are read, and what comes after them
pub record Digits (n : ℕ) (bytes : List ℕ) : Type 0 where
  pub text : List ℕ
  pub parts : bytes ≡ text ++ (digits_at n bytes).1
  pub digits : AreDigits text
  pub value : value_of n text ≡ (digits_at n bytes).0
  pub stops : Stops (digits_at n bytes).1

-- digits that are read are spelled so
pub digits_found : (n : ℕ) (bytes : List ℕ) → Digits n bytes
digits_found n [] = let e = digit_none n in record { text = []; parts = rw e refl; digits = tt; value = rw e refl; stops = rw e tt }
digits_found n (b ∷ bytes) =
    elim (cases_Bool (is_digit b)) [
      | inl digit ↦
          let e = digit_on n b bytes digit in
          let d = digits_found (n * 10 + (b - 48)) bytes in
          record {
            text = b ∷ d.text;
            parts = rw e (ap (λ (t : List ℕ). b ∷ t) d.parts);
            digits = (digit, d.digits);
            value = rw e d.value;
            stops = rw e d.stops;
          }
      | inr other ↦
          let e = digit_off n b bytes other in
          record { text = []; parts = rw e refl; digits = tt; value = rw e refl; stops = rw e other }
    ]

-- digits that are spelled so are read
pub digits_only : (n : ℕ) (text rest : List ℕ) → AreDigits text → Stops rest → digits_at n (text ++ rest) ≡ (value_of n text, rest)
digits_only n [] [] digits stops = digit_none n
digits_only n [] (b ∷ rest) digits stops = digit_off n b rest stops
digits_only n (d ∷ text) rest digits stops = digit_on n d (text ++ rest) digits.0 ∙ digits_only (n * 10 + (d - 48)) text rest digits.1 stops

-- where something was taken, it is not empty
absurd_or : (bytes text rest : List ℕ) → bytes ≡ text ++ rest → (length rest ≡ length bytes → ⊥) → 0 < length text
absurd_or bytes [] rest parts ne = absurd (ne (ap length (sym parts)))
absurd_or bytes (b ∷ text) rest parts ne = omega arith

-- where it is not empty, something was taken
longer : (text rest : List ℕ) → 0 < length text → length rest ≡ length (text ++ rest) → ⊥
longer text rest some e = omega (arith, length-append text rest)

-- what a number has passed
judged_ok : (here : Fault) (size : ℕ) (d x : ℕ × List ℕ) → judged here size d ≡ Ok x
    → (d ≡ x) × (length d.1 ≡ size → ⊥) × (d.0 < 4294967296) × (0 < length d.1)
unfolding judged
judged_ok here size (n, []) x e = absurd cc
judged_ok here size (n, b ∷ rest) x e =
    let g = guard_off (eqb (length (b ∷ rest)) size || leb 4294967296 n) here (Ok (n, b ∷ rest)) x e in
    let o = or_parts (eqb (length (b ∷ rest)) size) (leb 4294967296 n) g.0 in
    (ok_is (n, b ∷ rest) x g.1, eqb-false _ _ o.0, leb-false _ _ o.1, omega arith)

-- the text of a number, and what comes after it
pub record Numbered (bytes : List ℕ) (n : ℕ) (rest : List ℕ) : Type 0 where
  pub text : List ℕ
  pub parts : bytes ≡ text ++ rest
  pub is : IsNumber text n
  pub stops : Stops rest
  pub more : 0 < length rest

-- a number that is read is spelled so
pub number_found : (bytes : List ℕ) (x : ℕ × List ℕ) → number_at bytes ≡ Ok x → Numbered bytes x.0 x.1
unfolding number_at
number_found bytes x e =
    let j = judged_ok (fault_at BadNumber (length bytes)) (length bytes) (digits_at 0 bytes) x e in
    let d = digits_found 0 bytes in
    let some : 0 < length d.text = absurd_or bytes d.text (digits_at 0 bytes).1 d.parts j.1 in
    subst (λ (y : ℕ × List ℕ). Numbered bytes y.0 y.1) j.0 (record {
      text = d.text;
      parts = d.parts;
      is = record { digits = d.digits; some = some; value = d.value; small = j.2 };
      stops = d.stops;
      more = j.3;
    })

-- a number that is spelled so is read
pub number_only : (text : List ℕ) (n : ℕ) (b : ℕ) (rest : List ℕ) → IsNumber text n → is_digit b ≡ false
    → number_at (text ++ b ∷ rest) ≡ Ok (n, b ∷ rest)
unfolding number_at judged
number_only text n b rest is stops =
    let d : digits_at 0 (text ++ b ∷ rest) ≡ (n, b ∷ rest) = digits_only 0 text (b ∷ rest) is.digits stops
    ∙ ap (λ (k : ℕ). (k, b ∷ rest)) is.value in
    let long : eqb (length (b ∷ rest)) (length (text ++ b ∷ rest)) ≡ false = ne_eqb _ _ (λ q. absurd (longer text (b ∷ rest) is.some q)) in
    let low : leb 4294967296 n ≡ false = lt-leb 4294967296 n is.small in
    ap (judged (fault_at BadNumber (length (text ++ b ∷ rest))) (length (text ++ b ∷ rest))) d
    ∙ cond-false (eqb (length (b ∷ rest)) (length (text ++ b ∷ rest)) || leb 4294967296 n) _ _ (or_from _ _ long low)
