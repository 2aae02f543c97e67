-- A head that has a fault by the table fails so.
use Rattle.std.proofs.Common.{◌≡◌, ℕ, eqb, List, ◌∷◌, ◌++◌, length, Result, Ok, Err, refl}
use Rattle.std.specs.Prelude.{◌≢◌}
use Rattle.std.proofs.lemmas.Bool.{ne_eqb, cond-false}
use Rattle.mime_text.specs.declared.magic.fault.Fault.{Fault}
use Rattle.mime_text.specs.declared.magic.fault.MagicFaultKind.TheVariants.{Truncated, BadSection}
use Rattle.mime_text.specs.Magic.Reading.{fault_at, row_at, head_of, instead, head_at, section_at}
use Rattle.mime_text.specs.Magic.Text.{NoNewline}
use Rattle.mime_text.specs.Magic.FaultTable.{IsSectionHead}
use Rattle.mime_text.proofs.MagicLemmas.Prefixes.{row_only}
use Rattle.mime_text.proofs.MagicLemmas.HeadFound.{head_row_found}
use Rattle.mime_text.proofs.FaultLemmas.FaultSteps.{bind_fails, bind_to}
use Rattle.mime_text.proofs.FaultLemmas.FaultCutsOnly.{row_cut}

-- a head that fails is a section that fails
pub head_then : (rest : List ℕ) (f : Fault) → head_at rest ≡ Err f → section_at rest ≡ Err f
unfolding section_at
head_then rest f e = bind_fails (head_at rest) _ f e

-- a head that is cut
pub cut_head : (row : List ℕ) → NoNewline row → head_at (91 ∷ row) ≡ Err (fault_at Truncated 0)
unfolding head_at
cut_head row none = bind_fails (row_at row) _ (fault_at Truncated 0) (row_cut row none)

-- a row that is no head
row_wrong : (wrong : Fault) (row : List ℕ) → (IsSectionHead row → ⊥) → instead wrong (head_of wrong row) ≡ Err wrong
row_wrong wrong row never = go (head_of wrong row) refl
  where
    go : (r : Result (ℕ × List ℕ) Fault) → head_of wrong row ≡ r → instead wrong r ≡ Err wrong
    go (Ok x) is = let h = head_row_found wrong row x is in absurd (never (h.text, x.0, x.1, h.parts, h.priority_is, h.kind_is))
    go (Err g) is = refl

-- a head that is wrong
pub wrong_head : (row after : List ℕ) → NoNewline row → (IsSectionHead row → ⊥)
    → head_at (91 ∷ (row ++ 10 ∷ after)) ≡ Err (fault_at BadSection (length (91 ∷ (row ++ 10 ∷ after))))
unfolding head_at
wrong_head row after none never =
    let wrong : Fault = fault_at BadSection (length (91 ∷ (row ++ 10 ∷ after))) in
    bind_to (row_at (row ++ 10 ∷ after)) (row, after) _ (Err wrong) (row_only row after none)
    (bind_fails (instead wrong (head_of wrong row)) _ wrong (row_wrong wrong row never))

-- a byte that begins no head
pub no_head : (first : ℕ) (after : List ℕ) → first ≢ 91 → head_at (first ∷ after) ≡ Err (fault_at BadSection (length (first ∷ after)))
unfolding head_at
no_head first after other = cond-false (eqb first 91) _ _ (ne_eqb first 91 other)
