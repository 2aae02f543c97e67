-- The laws over the definitions, and what they make of a file that was read.
use Rattle.std.proofs.Common.{◌≡◌, ◌⊎◌, List, ℕ, length, Some, None, Result, Ok, Err, refl, sym, ap, subst, ◌∙◌, inl, inr}
use Rattle.std.specs.Prelude.{Contains, ◌↔◌}
use Rattle.mime_text.specs.declared.magic.fault.Fault.{Fault}
use Rattle.mime_text.specs.declared.magic.fault.MagicFault.{MagicFault}
use Rattle.mime_text.specs.declared.magic.fault.MagicFault.TheVariants as faults
use Rattle.mime_text.specs.declared.magic.fault.ReadError.{ReadError}
use Rattle.mime_text.specs.declared.magic.fault.ReadError.TheVariants as errors
use Rattle.mime_text.specs.declared.magic.file.MagicFile as code
use Rattle.mime_text.specs.Magic.Entries.{PlainFlatSection}
use Rattle.mime_text.specs.Magic.Reading.{Fails, whole, placed, placed_error, fault_in, magic_fault}
use Rattle.mime_text.specs.Magic.Text.{MagicText}
use Rattle.mime_text.specs.Magic.File.{IsFileOf, IsFaultOf, IsFileOfRead, deleted_kinds}
use Rattle.mime_text.proofs.MagicLemmas.Steps.{ok_is}
use Rattle.mime_text.proofs.MagicLemmas.SectionsFound.{whole_found}
use Rattle.mime_text.proofs.MagicLemmas.SectionsOnly.{whole_only}

-- a text spells sections or has a fault
pub spells_or_fails : (text : List ℕ)
    → ((flat_sections : List PlainFlatSection) × MagicText text flat_sections) ⊎ ((fault : MagicFault) × (magic_fault text ≡ Some fault))
unfolding magic_fault
spells_or_fails text =
    let go : (r : Result (List PlainFlatSection) Fault) → whole text ≡ r
    → ((flat_sections : List PlainFlatSection) × MagicText text flat_sections) ⊎
    ((fault : MagicFault) × (fault_in (length text) (whole text) ≡ Some fault)) = λ r.
    elim r as (λ r. whole text ≡ r
    → ((flat_sections : List PlainFlatSection) × MagicText text flat_sections) ⊎
    ((fault : MagicFault) × (fault_in (length text) (whole text) ≡ Some fault))) [
      | Ok flat_sections ↦ λ e. inl (flat_sections, whole_found text flat_sections e)
      | Err fault ↦ λ e. inr (placed (length text) fault, ap (fault_in (length text)) e)
    ] in
    go (whole text) refl

-- a text that spells sections has no fault
pub no_fault : (text : List ℕ) (flat_sections : List PlainFlatSection) → MagicText text flat_sections → magic_fault text ≡ None
unfolding magic_fault
no_fault text flat_sections is = ap (fault_in (length text)) (whole_only text flat_sections is)

-- a text spells no two lists of sections
pub one_list : (text : List ℕ) (a b : List PlainFlatSection) → MagicText text a → MagicText text b → a ≡ b
one_list text a b is_a is_b = ok_is a b (sym (whole_only text a is_a) ∙ whole_only text b is_b)

-- ---- a file that was read

-- a file of what was read is the file of what the text spells
same_file : (read : Result (List PlainFlatSection) Fault) (file : code.MagicFile) (flat_sections : List PlainFlatSection)
    → IsFileOfRead read file → read ≡ Ok flat_sections → IsFileOf flat_sections file
same_file read file flat_sections is e =
    let same : is.flat_sections ≡ flat_sections = ok_is is.flat_sections flat_sections (sym is.is_read ∙ e) in
    record {
      sections = rw same at is.sections;
      deleted = λ kind. subst (λ (kinds : List (List ℕ)). Contains file.deleted.items kind ↔ Contains kinds kind)
          (is.deleted ∙ ap deleted_kinds same) (λ h. h, λ h. h);
    }

-- what was read is spelled so
pub file_found : (text : List ℕ) (file : code.MagicFile) → IsFileOfRead (whole text) file
    → (flat_sections : List PlainFlatSection) × MagicText text flat_sections × IsFileOf flat_sections file
file_found text file is =
    (is.flat_sections, whole_found text is.flat_sections is.is_read, same_file (whole text) file is.flat_sections is is.is_read)

-- what is spelled so was read
pub file_only : (text : List ℕ) (file : code.MagicFile) (flat_sections : List PlainFlatSection) → IsFileOfRead (whole text) file
    → MagicText text flat_sections → IsFileOf flat_sections file
file_only text file flat_sections given spelled = same_file (whole text) file flat_sections given (whole_only text flat_sections spelled)

-- in a text that spells sections a reader's only error is that memory ran out
pub error_only : (text : List ℕ) (e : ReadError) (flat_sections : List PlainFlatSection) → Fails e (whole text)
    → MagicText text flat_sections → placed_error (length text) e ≡ faults.OutOfMemory
error_only text errors.OutOfMemory flat_sections fails spelled = refl
error_only text (errors.Fault fault) flat_sections fails spelled = let is = whole_only text flat_sections spelled in absurd cc

-- a reader's error is that memory ran out, or the text's first fault
pub error_exact : (text : List ℕ) (e : ReadError) → Fails e (whole text) → IsFaultOf text (placed_error (length text) e)
unfolding magic_fault
error_exact text errors.OutOfMemory fails = inl refl
error_exact text (errors.Fault fault) fails = inr (ap (fault_in (length text)) fails)
