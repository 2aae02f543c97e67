-- Indent, start and value of a line: what is spelled so is read.
use Rattle.std.proofs.Common.{◌≡◌, ℕ, ◌+◌, ◌*◌, ◌≤◌, true, false, eqb, ltb, leb, List, [], ◌∷◌, ◌++◌, length, length-append, Ok, refl, sym}
use Rattle.std.proofs.Common.{ap, ◌∙◌, arith, eq-eqb}
use Rattle.std.proofs.lemmas.Bool.{le-ltb, ne_eqb, and_parts, leb-true, cond-true, cond-false}
use Rattle.std.proofs.lemmas.List.{take_at, drop_at}
use Rattle.mime_text.specs.declared.magic.fault.Fault.{Fault}
use Rattle.mime_text.specs.declared.magic.fault.MagicFaultKind.TheVariants.{BadNumber, BadIndent}
use Rattle.mime_text.specs.Magic.Reading.{fault_at, is_digit, number_at, byte_at, indent_at, start_at, bytes_at, sized_at}
use Rattle.mime_text.specs.Magic.Text.{IsNumber, IsIndent}
use Rattle.mime_text.proofs.MagicLemmas.Numbers.{number_only}
use Rattle.mime_text.proofs.MagicLemmas.Steps.{bind_on}

-- a byte that stands there is read
pub byte_only : (want : ℕ) (wrong : Fault) (rest : List ℕ) → byte_at want wrong (want ∷ rest) ≡ Ok rest
unfolding byte_at
byte_only want wrong rest = cond-true (eqb want want) _ _ (eq-eqb want want refl)

-- a start and its `=` that are spelled so are read
pub start_only : (text : List ℕ) (n : ℕ) (rest : List ℕ) → IsNumber text n → start_at (text ++ 61 ∷ rest) ≡ Ok (n, rest)
unfolding start_at
start_only text n rest is = bind_on (number_at (text ++ 61 ∷ rest)) (n, 61 ∷ rest) _ (n, rest) (number_only text n 61 rest is refl)
    (bind_on (byte_at 61 (fault_at BadNumber (length (text ++ 61 ∷ rest))) (61 ∷ rest)) rest _ (n, rest)
    (byte_only 61 (fault_at BadNumber (length (text ++ 61 ∷ rest))) rest) refl)

-- a digit is a byte from 48 to 57
pub digit_range : (b : ℕ) → is_digit b ≡ true → (48 ≤ b) × (b ≤ 57)
digit_range b digit = let p = and_parts (leb 48 b) (leb b 57) digit in (leb-true _ _ p.0, leb-true _ _ p.1)

-- an indent and its `>` that are spelled so are read
pub indent_only : (text : List ℕ) (n : ℕ) (rest : List ℕ) → IsIndent text n → indent_at (text ++ 62 ∷ rest) ≡ Ok (n, rest)
unfolding indent_at
indent_only [] n rest is = ap (λ (k : ℕ). Ok (k, rest)) (sym is)
indent_only (b ∷ text) n rest is =
    let r = digit_range b is.digits.0 in
    let other : eqb b 62 ≡ false = ne_eqb b 62 (λ e. absurd (omega (arith, r.1, e))) in
    let whole : List ℕ = b ∷ (text ++ 62 ∷ rest) in
    cond-false (eqb b 62) _ _ other
    ∙ bind_on (number_at whole) (n, 62 ∷ rest) _ (n, rest) (number_only (b ∷ text) n 62 rest is refl)
    (bind_on (byte_at 62 (fault_at BadIndent (length whole)) (62 ∷ rest)) rest _ (n, rest)
    (byte_only 62 (fault_at BadIndent (length whole)) rest) refl)

-- that many bytes before a rest are read
pub bytes_only : (n : ℕ) (v rest : List ℕ) → length v ≡ n → bytes_at n (v ++ rest) ≡ Ok (v, rest)
unfolding bytes_at
bytes_only n v rest len =
    let long : ltb (length (v ++ rest)) n ≡ false = le-ltb _ _ (omega (arith, length-append v rest)) in
    rw (long, take_at v rest n len, drop_at v rest n len) refl

-- a value after the two bytes of its length is read
pub value_only : (high low : ℕ) (v rest : List ℕ) → length v ≡ 256 * high + low → sized_at (high ∷ low ∷ (v ++ rest)) ≡ Ok (v, rest)
unfolding sized_at
value_only high low v rest size = bytes_only (256 * high + low) v rest size
