-- The sections and lines of a text of magic as plain values, before indents make a section's lines a forest.
use Rattle.std.specs.Prelude.{ℕ, List, map, Option, Some, None}
use Rattle.std.specs.Borrow.{Bor}
use Rattle.mime_base.specs.Magic.{PlainLine, line_from, mask_bytes}
use Rattle.mime_text.specs.declared.magic.line.RawLine.{RawLine}
use Rattle.mime_text.specs.declared.magic.entry.MagicLine.{MagicLine}
use Rattle.mime_text.specs.declared.magic.entry.Role.{Role}
use Rattle.mime_text.specs.declared.magic.entry.Role.TheVariants as role
use Rattle.mime_text.specs.declared.magic.entry.MagicEntry.{MagicEntry}
use Rattle.mime_text.specs.declared.magic.entry.FlatSection.{FlatSection}

-- what a line is: one that is kept, one that is ignored, or a deletion marker
pub data PlainRole : Type 0 where
  kept : PlainLine → PlainRole
  ignored : PlainRole
  marker : PlainRole

-- a line with its indent
pub record PlainEntry : Type 0 where
  pub indent : ℕ
  pub role : PlainRole

-- a section whose lines stand one after another, as in the text
pub record PlainFlatSection : Type 0 where
  pub priority : ℕ
  pub kind : List ℕ
  pub entries : List PlainEntry

-- ---- the values of the code

-- what an optional slice points to
abbrev pub slice_bytes : Option (Bor (List ℕ)) → Option (List ℕ)
slice_bytes None = None
slice_bytes (Some mask) = Some mask.now

-- a line of slices
abbrev pub plain_raw_line : RawLine → PlainLine
plain_raw_line b = line_from b.start b.range b.word b.value.now (slice_bytes b.mask)

-- a line that is kept
abbrev pub plain_line : MagicLine → PlainLine
plain_line l = line_from l.start l.range l.word l.value.items (mask_bytes l.mask)

-- a role of the code
abbrev pub plain_role : Role → PlainRole
plain_role (role.Kept line) = kept (plain_line line)
plain_role role.Ignored = ignored
plain_role role.Marker = marker

-- an entry of the code
abbrev pub plain_entry : MagicEntry → PlainEntry
plain_entry e = record { indent = e.indent; role = plain_role e.role }

-- entries of the code
abbrev pub plain_entries : List MagicEntry → List PlainEntry
plain_entries entries = map plain_entry entries

-- a section of the code
abbrev pub plain_flat_section : FlatSection → PlainFlatSection
plain_flat_section p = record { priority = p.priority; kind = p.kind; entries = plain_entries p.entries.items }

-- sections of the code
abbrev pub plain_flat_sections : List FlatSection → List PlainFlatSection
plain_flat_sections flat_sections = map plain_flat_section flat_sections
