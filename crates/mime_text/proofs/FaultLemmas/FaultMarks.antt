-- A number and the byte after it: what is wrong where one fails.
use Rattle.std.proofs.Common.{◌≡◌, ℕ, false, eqb, List, ◌∷◌, length, Result, Ok, Err, sym, ap, ◌∙◌, inl, inr, ◌⊎◌}
use Rattle.std.specs.Prelude.{◌≢◌}
use Rattle.std.proofs.lemmas.Bool.{eqb-false}
use Rattle.mime_text.specs.declared.magic.fault.Fault.{Fault}
use Rattle.mime_text.specs.declared.magic.fault.MagicFaultKind.TheVariants.{BadNumber, BadIndent}
use Rattle.mime_text.specs.Magic.Reading.{◌>>=◌, fault_at, number_at, byte_at, indent_at, start_at}
use Rattle.mime_text.specs.Magic.Text.{IsNumber}
use Rattle.mime_text.specs.Magic.FaultTable.{IsEnded}
use Rattle.mime_text.proofs.MagicLemmas.Steps.{chosen}
use Rattle.mime_text.proofs.FaultLemmas.FaultSteps.{bind_err, fault_is}
use Rattle.mime_text.proofs.FaultLemmas.FaultNumbers.{number_ends}

-- a number that has another byte after it than the one wanted
pub record Unmarked (want : ℕ) (bytes : List ℕ) : Type 0 where
  pub text : List ℕ
  pub n : ℕ
  pub next : ℕ
  pub is : IsNumber text n
  pub ended : IsEnded text next bytes
  pub other : next ≢ want

-- a byte that is missing
byte_fails : (want b : ℕ) (wrong f : Fault) (bytes : List ℕ) → byte_at want wrong (b ∷ bytes) ≡ Err f → (b ≢ want) × (wrong ≡ f)
unfolding byte_at
byte_fails want b wrong f bytes e =
    elim (chosen (eqb b want) _ _ _ e) [
      | inl h ↦ let no = h.1 in absurd cc
      | inr h ↦ (eqb-false b want h.0, fault_is wrong f h.1)
    ]

-- a number and a byte after it
abbrev number_and_byte_found : ℕ → Fault → List ℕ → Result (ℕ × List ℕ) Fault
number_and_byte_found want wrong bytes = number_at bytes >>= λ n. byte_at want wrong n.1 >>= λ rest. Ok (n.0, rest)

-- a fault at a number and the byte after it is one or the other's
behind_number_fails : (want : ℕ) (wrong f : Fault) (bytes : List ℕ) → number_and_byte_found want wrong bytes ≡ Err f
    → (number_at bytes ≡ Err f) ⊎ ((wrong ≡ f) × Unmarked want bytes)
behind_number_fails want wrong f bytes e =
    elim (bind_err (number_at bytes) _ f e) [
      | inl h ↦ inl h
      | inr h ↦
          let k = number_ends bytes h.0 h.1 in
          elim (bind_err (byte_at want wrong h.0.1) _ f h.2) [
            | inl g ↦
                let b = byte_fails want k.1 wrong f k.3.after (ap (byte_at want wrong) (sym k.4) ∙ g) in
                inr (b.1, record { text = k.0; n = h.0.0; next = k.1; is = k.2; ended = k.3; other = b.0 })
            | inr g ↦ let no = g.2 in absurd cc
          ]
    ]

-- a start
pub start_fails : (bytes : List ℕ) (f : Fault) → start_at bytes ≡ Err f
    → (number_at bytes ≡ Err f) ⊎ ((fault_at BadNumber (length bytes) ≡ f) × Unmarked 61 bytes)
unfolding start_at
start_fails bytes f e = behind_number_fails 61 (fault_at BadNumber (length bytes)) f bytes e

-- an indent
pub indent_fails : (b : ℕ) (bytes : List ℕ) (f : Fault) → indent_at (b ∷ bytes) ≡ Err f
    → (eqb b 62 ≡ false) × ((number_at (b ∷ bytes) ≡ Err f) ⊎ ((fault_at BadIndent (length (b ∷ bytes)) ≡ f) × Unmarked 62 (b ∷ bytes)))
unfolding indent_at
indent_fails b bytes f e =
    elim (chosen (eqb b 62) _ _ _ e) [
      | inl h ↦ let no = h.1 in absurd cc
      | inr h ↦ (h.0, behind_number_fails 62 (fault_at BadIndent (length (b ∷ bytes))) f (b ∷ bytes) h.1)
    ]
