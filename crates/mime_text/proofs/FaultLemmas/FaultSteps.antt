-- Steps of reading that fail, how a fault moves to the whole text, and which kinds are final.
use Rattle.std.proofs.Common.{◌≡◌, ℕ, ◌+◌, Bool, true, false, cond, List, ◌++◌, length, length-append, Result, Ok, Err, refl, ap, ◌∙◌, ◌⊎◌}
use Rattle.std.proofs.Common.{inl, inr, arith}
use Rattle.mime_text.specs.declared.magic.fault.Fault.{Fault}
use Rattle.mime_text.specs.declared.magic.fault.MagicFault.TheVariants.{Malformed}
use Rattle.mime_text.specs.declared.magic.fault.MagicFaultKind.{MagicFaultKind}
use Rattle.mime_text.specs.declared.magic.fault.MagicFaultKind.TheVariants.{Truncated, BadSection, BadNumber, BadWord, BadIndent, TooDeep}
use Rattle.mime_text.specs.Magic.Reading.{◌>>=◌, fault_at, placed}
use Rattle.mime_text.specs.Magic.FaultTable.{IsFinal}

-- two results that are both faults have one fault
pub fault_is : {A : Type 0} (f g : Fault) → ◌≡◌ {A = Result A Fault} (Err f) (Err g) → f ≡ g
fault_is f g e = cc

-- where two steps fail, the first does, or else the second
pub bind_err : {A B : Type 0} (r : Result A Fault) (s : A → Result B Fault) (f : Fault) → (r >>= s) ≡ Err f
    → (r ≡ Err f) ⊎ ((x : A) × (r ≡ Ok x) × (s x ≡ Err f))
bind_err (Ok x) s f e = inr (x, refl, e)
bind_err (Err d) s f e = inl (ap (λ (k : Fault). Err k) (fault_is d f e))

-- a first step that fails
pub bind_fails : {A B : Type 0} (r : Result A Fault) (s : A → Result B Fault) (f : Fault) → r ≡ Err f → (r >>= s) ≡ Err f
bind_fails r s f e = ap (λ (t : Result _ Fault). t >>= s) e

-- a second step, whatever it gives
pub bind_to : {A B : Type 0} (r : Result A Fault) (x : A) (s : A → Result B Fault) (z : Result B Fault) → r ≡ Ok x → s x ≡ z → (r >>= s) ≡ z
bind_to r x s z e g = ap (λ (t : Result _ Fault). t >>= s) e ∙ g

-- a test before more steps: it fails, or they do
pub guard_err : {A : Type 0} (b : Bool) (d f : Fault) (x : Result A Fault) → cond b (Err d) x ≡ Err f
    → ((b ≡ true) × (d ≡ f)) ⊎ ((b ≡ false) × (x ≡ Err f))
guard_err true d f x e = inl (refl, fault_is d f e)
guard_err false d f x e = inr (refl, e)

-- in a text of that many bytes the fault is of this kind at this offset, and so it is after more bytes
pub record Places (f : Fault) (size : ℕ) (kind : MagicFaultKind) (offset : ℕ) : Type 0 where
  pub at : (n : ℕ) → placed (n + size) f ≡ Malformed kind (n + offset)

-- a cut is at the end
pub places_end : (text : List ℕ) (at : ℕ) → at ≡ length text → Places (fault_at Truncated 0) (length text) Truncated at
places_end text at e = record { at = λ n. ap (λ (k : ℕ). Malformed Truncated k) (omega (arith, e)) }

-- a fault at the byte after a front
pub places_behind : (kind : MagicFaultKind) (front rest text : List ℕ) (at : ℕ) → text ≡ front ++ rest → at ≡ length front
    → Places (fault_at kind (length rest)) (length text) kind at
places_behind kind front rest text at is e =
    record { at = λ n. ap (λ (k : ℕ). Malformed kind k) (omega (arith, e, ap length is, length-append front rest)) }

-- a fault at the first byte
pub places_first : (kind : MagicFaultKind) (text : List ℕ) (at : ℕ) → at ≡ 0 → Places (fault_at kind (length text)) (length text) kind at
places_first kind text at e = record { at = λ n. ap (λ (k : ℕ). Malformed kind k) (omega (arith, e)) }

-- ---- kinds that are neither of a missing header nor of a cut

-- a wrong section stays wrong
pub section_final : IsFinal (Malformed BadSection 0)
section_final = (λ e. cc, λ e. cc)

-- so does a wrong number
pub number_final : IsFinal (Malformed BadNumber 0)
number_final = (λ e. cc, λ e. cc)

-- so does a wrong word
pub word_final : IsFinal (Malformed BadWord 0)
word_final = (λ e. cc, λ e. cc)

-- so does a wrong indent
pub indent_final : IsFinal (Malformed BadIndent 0)
indent_final = (λ e. cc, λ e. cc)

-- so does a line that is too deep
pub deep_final : IsFinal (Malformed TooDeep 0)
deep_final = (λ e. cc, λ e. cc)
