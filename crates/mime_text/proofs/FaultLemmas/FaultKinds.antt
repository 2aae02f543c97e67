-- The faults of a line by their kinds.
use Rattle.std.proofs.Common.{◌≡◌, ℕ, List, length, refl, sym, subst}
use Rattle.mime_text.specs.declared.magic.fault.Fault.{Fault}
use Rattle.mime_text.specs.declared.magic.fault.MagicFaultKind.{MagicFaultKind}
use Rattle.mime_text.specs.declared.magic.fault.MagicFaultKind.TheVariants.{NoHeader, Truncated, BadSection, BadNumber, BadWord, BadIndent}
use Rattle.mime_text.specs.declared.magic.fault.MagicFaultKind.TheVariants.{TooDeep}
use Rattle.mime_text.specs.Magic.Reading.{fault_at}
use Rattle.mime_text.specs.Magic.FaultTable.{IsCutLine, IsMisnumbered, IsMisworded, IsMisindented, IsIndentTooDeep, IsCutAtEnd}
use Rattle.mime_text.proofs.FaultLemmas.FaultSteps.{Places, places_end}

-- the faults of a line, by kind
abbrev pub LineFault : MagicFaultKind → ℕ → List ℕ → ℕ → Type 0
LineFault NoHeader limit line at = ⊥
LineFault Truncated limit line at = IsCutAtEnd limit line at
LineFault BadSection limit line at = ⊥
LineFault BadNumber limit line at = IsMisnumbered limit line at
LineFault BadWord limit line at = IsMisworded limit line at
LineFault BadIndent limit line at = IsMisindented limit line at
LineFault TooDeep limit line at = IsIndentTooDeep limit line at

-- the fault by the table of a line that fails
pub record LineFails (limit : ℕ) (line : List ℕ) (f : Fault) : Type 0 where
  pub kind : MagicFaultKind
  pub at : ℕ
  pub is : LineFault kind limit line at
  pub places : Places f (length line) kind at

-- a line that is cut
pub cut : (limit : ℕ) (line : List ℕ) (f : Fault) → f ≡ fault_at Truncated 0 → IsCutLine limit line → LineFails limit line f
cut limit line f e is =
    subst (λ (g : Fault). LineFails limit line g) (sym e)
    (record { kind = Truncated; at = length line; is = (is, refl); places = places_end line (length line) refl })
