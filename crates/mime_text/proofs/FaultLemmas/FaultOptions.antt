-- The parts of a line after its start: what is wrong where one fails.
use Rattle.std.proofs.Common.{◌≡◌, ℕ, ◌+◌, ◌*◌, ◌<◌, false, eqb, ltb, List, [], ◌∷◌, length, Err, refl, sym, ap, arith, inl, inr, ◌⊎◌}
use Rattle.std.proofs.lemmas.Bool.{ltb-true, eqb-true, eqb-false}
use Rattle.mime_base.specs.Magic.{fits_word}
use Rattle.mime_text.specs.declared.magic.fault.Fault.{Fault}
use Rattle.mime_text.specs.declared.magic.fault.MagicFaultKind.TheVariants.{Truncated, BadWord}
use Rattle.mime_text.specs.Magic.Reading.{fault_at, number_at, bytes_at, sized_at, mask_at, word_at, range_at, row_at}
use Rattle.mime_text.specs.Magic.Text.{IsNumber, NoNewline}
use Rattle.mime_text.specs.Magic.FaultTable.{IsEnded}
use Rattle.mime_text.proofs.MagicLemmas.Steps.{chosen}
use Rattle.mime_text.proofs.FaultLemmas.FaultSteps.{bind_err, guard_err, fault_is}
use Rattle.mime_text.proofs.FaultLemmas.FaultNumbers.{number_ends}

-- that many bytes
bytes_fail : (n : ℕ) (bytes : List ℕ) (f : Fault) → bytes_at n bytes ≡ Err f → (f ≡ fault_at Truncated 0) × (length bytes < n)
unfolding bytes_at
bytes_fail n bytes f e =
    elim (guard_err (ltb (length bytes) n) (fault_at Truncated 0) f _ e) [
      | inl h ↦ (sym h.1, ltb-true _ _ h.0)
      | inr h ↦ let no = h.1 in absurd cc
    ]

-- a value with its length
pub value_fails : (bytes : List ℕ) (f : Fault) → sized_at bytes ≡ Err f
    → (f ≡ fault_at Truncated 0) × ((length bytes < 2)
    ⊎ ((high : ℕ) × (low : ℕ) × (cut : List ℕ) × (bytes ≡ high ∷ low ∷ cut) × (length cut < 256 * high + low)))
unfolding sized_at
value_fails [] f e = (sym (fault_is (fault_at Truncated 0) f e), inl (omega arith))
value_fails (high ∷ []) f e = (sym (fault_is (fault_at Truncated 0) f e), inl (omega arith))
value_fails (high ∷ low ∷ bytes) f e = let b = bytes_fail (256 * high + low) bytes f e in (b.0, inr (high, low, bytes, refl, b.1))

-- a mask
pub mask_fails : (size : ℕ) (bytes : List ℕ) (f : Fault) → mask_at size bytes ≡ Err f
    → (f ≡ fault_at Truncated 0) × (cut : List ℕ) × (bytes ≡ 38 ∷ cut) × (length cut < size)
unfolding mask_at
mask_fails size [] f e = absurd cc
mask_fails size (b ∷ bytes) f e =
    elim (chosen (eqb b 38) _ _ _ e) [
      | inl h ↦ elim (bind_err (bytes_at size bytes) _ f h.1) [
        | inl g ↦ let c = bytes_fail size bytes f g in (c.0, bytes, ap (λ (k : ℕ). k ∷ bytes) (eqb-true b 38 h.0), c.1)
        | inr g ↦ let no = g.2 in absurd cc
      ]
      | inr h ↦ let no = h.1 in absurd cc
    ]

-- a word that ends and doesn't fit a value of this size
pub record Misfit (size : ℕ) (bytes : List ℕ) : Type 0 where
  pub word : List ℕ
  pub n : ℕ
  pub next : ℕ
  pub is : IsNumber word n
  pub ended : IsEnded word next bytes
  pub misfit : fits_word n size ≡ false

-- a word
pub word_fails : (size : ℕ) (bytes : List ℕ) (f : Fault) → word_at size bytes ≡ Err f
    → (rest : List ℕ) × (bytes ≡ 126 ∷ rest) × ((number_at rest ≡ Err f) ⊎ ((fault_at BadWord (length rest) ≡ f) × Misfit size rest))
unfolding word_at
word_fails size [] f e = absurd cc
word_fails size (b ∷ bytes) f e =
    elim (chosen (eqb b 126) _ _ _ e) [
      | inl h ↦ (
        bytes,
        ap (λ (k : ℕ). k ∷ bytes) (eqb-true b 126 h.0),
        elim (bind_err (number_at bytes) _ f h.1) [
          | inl g ↦ inl g
          | inr g ↦
              let k = number_ends bytes g.0 g.1 in
              elim (chosen (fits_word g.0.0 size) _ _ _ g.2) [
                | inl t ↦ let no = t.1 in absurd cc
                | inr t ↦
                    inr (
                      fault_is (fault_at BadWord (length bytes)) f t.1,
                      record { word = k.0; n = g.0.0; next = k.1; is = k.2; ended = k.3; misfit = t.0 },
                    )
              ]
        ],
      )
      | inr h ↦ let no = h.1 in absurd cc
    ]

-- a range
pub range_fails : (bytes : List ℕ) (f : Fault) → range_at bytes ≡ Err f → (rest : List ℕ) × (bytes ≡ 43 ∷ rest) × (number_at rest ≡ Err f)
unfolding range_at
range_fails [] f e = absurd cc
range_fails (b ∷ bytes) f e =
    elim (chosen (eqb b 43) _ _ _ e) [
      | inl h ↦ (bytes, ap (λ (k : ℕ). k ∷ bytes) (eqb-true b 43 h.0), h.1)
      | inr h ↦ let no = h.1 in absurd cc
    ]

-- a row
pub row_fails : (bytes : List ℕ) (f : Fault) → row_at bytes ≡ Err f → (f ≡ fault_at Truncated 0) × NoNewline bytes
unfolding row_at
row_fails [] f e = (sym (fault_is (fault_at Truncated 0) f e), tt)
row_fails (b ∷ bytes) f e =
    elim (chosen (eqb b 10) _ _ _ e) [
      | inl h ↦ let no = h.1 in absurd cc
      | inr h ↦ elim (bind_err (row_at bytes) _ f h.1) [
        | inl g ↦ let r = row_fails bytes f g in (r.0, (eqb-false b 10 h.0, r.1))
        | inr g ↦ let no = g.2 in absurd cc
      ]
    ]
