-- Indent, start and value of a line against the grammar: what is read is spelled so.
use Rattle.std.proofs.Common.{◌≡◌, ℕ, ◌+◌, ◌*◌, ◌≤◌, eqb, ltb, List, [], ◌∷◌, ◌++◌, length, take, drop, Result, Ok, refl, sym, ap, subst}
use Rattle.std.proofs.Common.{◌∙◌, arith, inl, inr}
use Rattle.std.proofs.lemmas.Bool.{ltb-false, eqb-true}
use Rattle.std.proofs.lemmas.List.{take-append-drop, length-take}
use Rattle.mime_text.specs.declared.magic.fault.Fault.{Fault}
use Rattle.mime_text.specs.declared.magic.fault.MagicFaultKind.TheVariants.{Truncated, BadNumber, BadIndent}
use Rattle.mime_text.specs.Magic.Reading.{◌>>=◌, fault_at, number_at, byte_at, indent_at, start_at, bytes_at, sized_at}
use Rattle.mime_text.specs.Magic.Text.{IsNumber, IsIndent}
use Rattle.mime_text.proofs.MagicLemmas.Steps.{bind_ok, guard_off, guard_on, chosen, ok_is}
use Rattle.mime_text.proofs.MagicLemmas.Numbers.{number_found}

-- a byte that is read stands there
pub byte_found : (want : ℕ) (wrong : Fault) (bytes rest : List ℕ) → byte_at want wrong bytes ≡ Ok rest → bytes ≡ want ∷ rest
unfolding byte_at
byte_found want wrong [] rest e = absurd cc
byte_found want wrong (b ∷ bytes) rest e = let g = guard_on (eqb b want) wrong (Ok bytes) rest e in let is : b ≡ want =
    eqb-true b want g.0 in let r = g.1 in cc

-- a number and a byte after it, as they are read
abbrev number_and_byte : ℕ → Fault → List ℕ → Result (ℕ × List ℕ) Fault
number_and_byte want wrong bytes = number_at bytes >>= λ n. byte_at want wrong n.1 >>= λ rest. Ok (n.0, rest)

-- they are spelled so
number_and_byte_found : (want : ℕ) (wrong : Fault) (bytes : List ℕ) (x : ℕ × List ℕ) → number_and_byte want wrong bytes ≡ Ok x
    → (text : List ℕ) × (bytes ≡ text ++ want ∷ x.1) × IsNumber text x.0
number_and_byte_found want wrong bytes x e =
    let a = bind_ok (number_at bytes) (λ n. byte_at want wrong n.1 >>= λ rest. Ok (n.0, rest)) x e in
    let b = bind_ok (byte_at want wrong a.0.1) (λ rest. Ok (a.0.0, rest)) x a.2 in
    let n = number_found bytes a.0 a.1 in
    let c = byte_found want wrong a.0.1 b.0 b.1 in
    subst (λ (y : ℕ × List ℕ). (text : List ℕ) × (bytes ≡ text ++ want ∷ y.1) × IsNumber text y.0) (ok_is (a.0.0, b.0) x b.2)
    (n.text, n.parts ∙ ap (λ (t : List ℕ). n.text ++ t) c, n.is)

-- a start and its `=` that are read are spelled so
pub start_found : (bytes : List ℕ) (x : ℕ × List ℕ) → start_at bytes ≡ Ok x
    → (text : List ℕ) × (bytes ≡ text ++ 61 ∷ x.1) × IsNumber text x.0
unfolding start_at
start_found bytes x e = number_and_byte_found 61 (fault_at BadNumber (length bytes)) bytes x e

-- a number is an indent
as_indent : (text : List ℕ) (n : ℕ) → IsNumber text n → IsIndent text n
as_indent [] n is = absurd (omega (arith, is.some))
as_indent (b ∷ text) n is = is

-- an indent and its `>` that are read are spelled so
pub indent_found : (bytes : List ℕ) (x : ℕ × List ℕ) → indent_at bytes ≡ Ok x
    → (text : List ℕ) × (bytes ≡ text ++ 62 ∷ x.1) × IsIndent text x.0
unfolding indent_at
indent_found [] x e = absurd cc
indent_found (b ∷ bytes) x e =
    elim (chosen (eqb b 62) (Ok (0, bytes)) (number_and_byte 62 (fault_at BadIndent (length (b ∷ bytes))) (b ∷ bytes)) (Ok x) e) [
      | inl h ↦
          let is : b ≡ 62 = eqb-true b 62 h.0 in
          subst (λ (y : ℕ × List ℕ). (text : List ℕ) × (b ∷ bytes ≡ text ++ 62 ∷ y.1) × IsIndent text y.0) (ok_is (0, bytes) x h.1)
          ([], ap (λ (k : ℕ). k ∷ bytes) is, refl)
      | inr h ↦
          let n = number_and_byte_found 62 (fault_at BadIndent (length (b ∷ bytes))) (b ∷ bytes) x h.1 in
          (n.0, n.1, as_indent n.0 x.0 n.2)
    ]

-- that many bytes that are read are the first, and that many
pub bytes_found : (n : ℕ) (bytes : List ℕ) (x : List ℕ × List ℕ) → bytes_at n bytes ≡ Ok x → (bytes ≡ x.0 ++ x.1) × (length x.0 ≡ n)
unfolding bytes_at
bytes_found n bytes x e =
    let g = guard_off (ltb (length bytes) n) (fault_at Truncated 0) (Ok (take n bytes, drop n bytes)) x e in
    let long : n ≤ length bytes = ltb-false _ _ g.0 in
    subst (λ (y : List ℕ × List ℕ). (bytes ≡ y.0 ++ y.1) × (length y.0 ≡ n)) (ok_is (take n bytes, drop n bytes) x g.1)
    (sym (take-append-drop n bytes), omega (arith, length-take n bytes))

-- a value that is read stands after the two bytes of its length
pub value_found : (bytes : List ℕ) (x : List ℕ × List ℕ) → sized_at bytes ≡ Ok x
    → (high : ℕ) × (low : ℕ) × (bytes ≡ high ∷ low ∷ (x.0 ++ x.1)) × (length x.0 ≡ 256 * high + low)
unfolding sized_at
value_found [] x e = absurd cc
value_found (high ∷ []) x e = absurd cc
value_found (high ∷ low ∷ bytes) x e =
    let b = bytes_found (256 * high + low) bytes x e in
    (high, low, ap (λ (t : List ℕ). high ∷ low ∷ t) b.0, b.1)
