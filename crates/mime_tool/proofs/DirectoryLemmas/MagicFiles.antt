-- What the file magic of a directory gives.
use Rattle.std.proofs.Common.{◌≡◌, ◌⊎◌, ℕ, List, [], inl, inr, Some, None, Ok, Err, refl, subst, sym}
use Rattle.mime_base.specs.Magic.{PlainSection}
use Rattle.mime_text.specs.Magic.File.{IsFaultOf, IsFileOf, deleted_kinds, kept_sections}
use Rattle.mime_text.specs.Magic.Entries.{PlainFlatSection}
use Rattle.mime_text.specs.Magic.Reading.{magic_fault}
use Rattle.mime_text.specs.Magic.Text.{MagicText}
use Rattle.mime_text.specs.declared.magic.fault.MagicFault.{MagicFault}
use Rattle.mime_text.specs.declared.magic.fault.MagicFault.TheVariants as fault
use Rattle.mime_text.specs.declared.magic.file.MagicFile.{MagicFile}
use Rattle.mime_text.proofs.MagicLemmas.Laws.{spells_or_fails}
use Rattle.mime_tool.specs.Directories.{IsMagicFaultStop, IsMagicAt, IsMagicOrFault, IsTextAt, faulty, plain_magic}
use Rattle.mime_tool.specs.Files.{Stored}
use Rattle.mime_tool.specs.Finish.{Sinks}
use Rattle.mime_tool.specs.Loading.{Loads}
use Rattle.mime_tool.specs.Stop.{IsRefusal}
use Rattle.mime_tool.specs.declared.stop.Stop.{Stop}
use Rattle.mime_tool.specs.declared.stop.Stop.TheVariants as stop
use Rattle.mime_tool.proofs.DirectoryLemmas.DataFiles.{can_be_text}
use Rattle.mime_tool.proofs.RunLemmas.Ends.{writes_nothing}
use Rattle.mime_tool.proofs.RunLemmas.Loads.{CanBe, can_then, loads_nothing}

-- a text of magic can be parsed
pub can_be_magic : (path text : List ℕ) → CanBe (IsMagicOrFault path text)
can_be_magic path text = go (spells_or_fails text)
  where
    go : ((flat_sections : List PlainFlatSection) × MagicText text flat_sections) ⊎ ((f : MagicFault) × (magic_fault text ≡ Some f))
        → CanBe (IsMagicOrFault path text)
    go (inl is) =
        (Some (kept_sections is.0, deleted_kinds is.0), [], ((is.0, is.1, refl, (λ kind. (λ x. x, λ x. x))), refl))
    go (inr is) = (None, faulty path is.0, (is.0, is.1, refl))

-- so can that of a file
pub can_be_magic_at : (stored : List ℕ → Stored) (path : List ℕ) → CanBe (IsMagicAt stored path)
can_be_magic_at stored path =
    can_then (List ℕ) (List PlainSection × List (List ℕ)) (IsTextAt stored path) (IsMagicOrFault path) (can_be_text stored path)
    (can_be_magic path)

-- what was parsed is what the text spells
pub magic_parsed : (path text : List ℕ) (s : Sinks) (file : MagicFile) (flat_sections : List PlainFlatSection)
    → MagicText text flat_sections → IsFileOf flat_sections file → Loads plain_magic (IsMagicOrFault path text) s s (Ok file)
magic_parsed path text s file flat_sections spells is =
    ([], ((flat_sections, spells, is.sections, is.deleted), refl), writes_nothing s)

-- the stop at a fault is a refusal, or memory ran out
fault_stops : (path : List ℕ) (f : MagicFault) (s : Stop) → IsMagicFaultStop path f s → (s ≡ stop.OutOfMemory) ⊎ IsRefusal (faulty path f) s
fault_stops path (fault.Malformed kind offset) s p = inr p
fault_stops path fault.OutOfMemory s p = inl p

-- memory ran out
refused_memory : (path text : List ℕ) (sinks : Sinks) (s : Stop) → s ≡ stop.OutOfMemory
    → Loads plain_magic (IsMagicOrFault path text) sinks sinks (Err s)
refused_memory path text sinks s memory =
    subst (λ (x : Stop). Loads plain_magic (IsMagicOrFault path text) sinks sinks (Err x)) (sym memory)
    (loads_nothing MagicFile (List PlainSection × List (List ℕ)) plain_magic (IsMagicOrFault path text) sinks (can_be_magic path text))

-- a text with a fault was refused
refused : (path text : List ℕ) (f : MagicFault) (sinks : Sinks) (s : Stop) → magic_fault text ≡ Some f
    → (s ≡ stop.OutOfMemory) ⊎ IsRefusal (faulty path f) s → Loads plain_magic (IsMagicOrFault path text) sinks sinks (Err s)
refused path text f sinks s is (inl memory) = refused_memory path text sinks s memory
refused path text f sinks stop.OutOfMemory is (inr p) = refused_memory path text sinks stop.OutOfMemory refl
refused path text f sinks stop.CannotWrite is (inr p) = absurd p
refused path text f sinks (stop.Refused m) is (inr p) = ([], (f, is, p), writes_nothing sinks)

-- what wasn't parsed has a fault, or memory ran out
pub magic_refused : (path text : List ℕ) (f : MagicFault) (sinks : Sinks) (s : Stop) → IsFaultOf text f → IsMagicFaultStop path f s
    → Loads plain_magic (IsMagicOrFault path text) sinks sinks (Err s)
magic_refused path text f sinks s (inl memory) p =
    refused_memory path text sinks s (subst (λ (x : MagicFault). IsMagicFaultStop path x s) memory p)
magic_refused path text f sinks s (inr is) p = refused path text f sinks s is (fault_stops path f s p)
