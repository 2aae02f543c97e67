-- What a text of magic gives: the sections that keep a line, and the types that markers delete.
use Rattle.std.specs.Prelude.{◌≡◌, ◌⊎◌, ℕ, List, [], ◌∷◌, Bool, true, false, if◌then◌else◌, Some, Result, Ok, Err}
use Rattle.std.specs.List.{list_any}
use Rattle.mime_base.specs.Magic.{Forest, bare, line, PlainSection, plain_sections}
use Rattle.mime_text.specs.declared.magic.fault.Fault.{Fault}
use Rattle.mime_text.specs.declared.magic.fault.ReadError.{ReadError}
use Rattle.mime_text.specs.declared.magic.fault.MagicFault.{MagicFault}
use Rattle.mime_text.specs.declared.magic.fault.MagicFault.TheVariants.{OutOfMemory}
use Rattle.mime_text.specs.declared.magic.file.MagicFile as code
use Rattle.mime_text.specs.Magic.Entries.{PlainRole, kept, ignored, marker, PlainFlatSection}
use Rattle.mime_text.specs.Magic.Reading.{Fails, magic_fault}
use Rattle.mime_text.specs.Magic.Forest.{forest}
use Rattle.mime_text.specs.Lines.{HasJust}

-- a section with its lines as a forest
abbrev pub with_forest : PlainFlatSection → PlainSection
with_forest p = record { priority = p.priority; kind = p.kind; lines = forest p.entries }

-- a section that keeps no line is left out
abbrev pub unless_bare : PlainSection → Forest → List PlainSection → List PlainSection
unless_bare section bare rest = rest
unless_bare section (line own children others) rest = section ∷ rest

-- the sections that keep a line, each with its forest, in the order of the text
abbrev pub kept_sections : List PlainFlatSection → List PlainSection
kept_sections [] = []
kept_sections (p ∷ ps) = unless_bare (with_forest p) (forest p.entries) (kept_sections ps)

-- whether a line is a deletion marker
abbrev pub is_marker : PlainRole → Bool
is_marker (kept own) = false
is_marker ignored = false
is_marker marker = true

-- whether a section holds a deletion marker
abbrev pub holds_marker : PlainFlatSection → Bool
holds_marker p = list_any (λ i. is_marker i.role) p.entries

-- the types of the sections that hold a marker
abbrev pub deleted_kinds : List PlainFlatSection → List (List ℕ)
deleted_kinds [] = []
deleted_kinds (p ∷ ps) = if holds_marker p then p.kind ∷ deleted_kinds ps else deleted_kinds ps

-- the file has those of these sections that keep a line, and just the types that their markers delete
pub record IsFileOf (flat_sections : List PlainFlatSection) (file : code.MagicFile) : Type 0 where
  pub sections : plain_sections file.sections.items ≡ kept_sections flat_sections
  pub deleted : HasJust file.deleted.items (deleted_kinds flat_sections)

-- the fault is out of memory, or the first fault of the text
abbrev pub IsFaultOf : List ℕ → MagicFault → Type 0
IsFaultOf text fault = (fault ≡ OutOfMemory) ⊎ (magic_fault text ≡ Some fault)

-- the file is that of the sections which reading gives
pub record IsFileOfRead (read : Result (List PlainFlatSection) Fault) (file : code.MagicFile) : Type 0 where
  pub flat_sections : List PlainFlatSection
  pub is_read : read ≡ Ok flat_sections
  pub sections : plain_sections file.sections.items ≡ kept_sections flat_sections
  pub deleted : file.deleted.items ≡ deleted_kinds flat_sections

-- what the reader returned is what reading gives, unless memory ran out
abbrev pub ReadsFile : Result code.MagicFile ReadError → Result (List PlainFlatSection) Fault → Type 0
ReadsFile (Ok file) read = IsFileOfRead read file
ReadsFile (Err e) read = Fails e read
