-- What the texts of data directories say, and the first whose magic is refused.
use Rattle.std.specs.Prelude.{◌≡◌, ℕ, zero, suc, List, [], ◌∷◌, Some, None}
use Rattle.mime_base.specs.Database.{PlainDatabase}
use Rattle.mime_base.specs.Database.PlainPairs.{plain_icons, plain_pairs}
use Rattle.mime_base.specs.Magic.{PlainSection, plain_sections}
use Rattle.mime_text.specs.Lines.{HasJust}
use Rattle.mime_text.specs.Lines.Globs2.{markers_of, rules_of}
use Rattle.mime_text.specs.Lines.Icons.{icons_in}
use Rattle.mime_text.specs.Lines.Pairs.{pairs_in}
use Rattle.mime_text.specs.Magic.Entries.{PlainFlatSection}
use Rattle.mime_text.specs.Magic.File.{deleted_kinds, kept_sections}
use Rattle.mime_text.specs.Magic.Reading.{magic_fault}
use Rattle.mime_text.specs.Magic.Text.{MagicText}
use Rattle.mime_text.specs.Merging.{PlainDir, merged, visible_database}
use Rattle.mime_text.specs.declared.dir_texts.DirTexts.{DirTexts}
use Rattle.mime_text.specs.declared.dir_texts.DirsFault.{DirsFault}
use Rattle.mime_text.specs.declared.dir_texts.DirsFault.TheVariants as dirs_fault
use Rattle.mime_text.specs.declared.magic.fault.MagicFault.{MagicFault}
use Rattle.mime_text.specs.declared.magic.fault.MagicFault.TheVariants.{Malformed}
use Rattle.mime_text.specs.declared.magic.file.MagicFile.{MagicFile}

-- the sections that a text of magic spells, and the types that it deletes
abbrev pub SaysMagic : List ℕ → List PlainSection → List (List ℕ) → Type 0
SaysMagic text sections deleted =
    (flat_sections : List PlainFlatSection) × MagicText text flat_sections
    × (sections ≡ kept_sections flat_sections) × HasJust deleted (deleted_kinds flat_sections)

-- what a file magic of the code says, by that text
abbrev pub FileSays : List ℕ → MagicFile → Type 0
FileSays text file = SaysMagic text (plain_sections file.sections.items) file.deleted.items

-- What the six texts of a directory say.
pub record SaysDir (dir : DirTexts) (plain : PlainDir) : Type 0 where
  -- The rules of globs2.
  pub rules : plain.rules ≡ rules_of dir.globs2.now
  -- The types of its markers.
  pub deleted_globs : HasJust plain.deleted_globs (markers_of dir.globs2.now)
  -- The sections of magic, and the types of its markers.
  pub magic : SaysMagic dir.magic.now plain.sections plain.deleted_magic
  -- The pairs of aliases.
  pub aliases : plain.aliases ≡ plain_pairs (pairs_in dir.aliases.now)
  -- The pairs of subclasses.
  pub subclasses : plain.subclasses ≡ plain_pairs (pairs_in dir.subclasses.now)
  -- The icons.
  pub icons : plain.icons ≡ plain_icons (icons_in dir.icons.now)
  -- The generic icons.
  pub generic_icons : plain.generic_icons ≡ plain_icons (icons_in dir.generic_icons.now)

-- what directories say, each in its place
abbrev pub SayDirs : List DirTexts → List PlainDir → Type 0
SayDirs [] [] = Unit {0}
SayDirs [] (plain ∷ plains) = ⊥
SayDirs (dir ∷ dirs) [] = ⊥
SayDirs (dir ∷ dirs) (plain ∷ plains) = SaysDir dir plain × SayDirs dirs plains

-- the database that directories say: what they say, merged, with the visible ones of its rules
abbrev pub SayDatabase : List DirTexts → PlainDatabase → Type 0
SayDatabase dirs b = (plains : List PlainDir) × SayDirs dirs plains × (b ≡ visible_database (merged plains))

-- the directory of this number, counted from 0, is the first whose magic has a fault, and this is its first
abbrev pub FirstRefused : List DirTexts → ℕ → MagicFault → Type 0
FirstRefused [] i f = ⊥
FirstRefused (dir ∷ dirs) zero f = magic_fault dir.magic.now ≡ Some f
FirstRefused (dir ∷ dirs) (suc i) f = (magic_fault dir.magic.now ≡ None) × FirstRefused dirs i f

-- the first fault of the directories' magic, unless memory ran out
abbrev pub IsFaultOfDirs : List DirTexts → DirsFault → Type 0
IsFaultOfDirs dirs (dirs_fault.Magic i kind offset) = FirstRefused dirs i (Malformed kind offset)
IsFaultOfDirs dirs dirs_fault.OutOfMemory = Unit {0}

-- the first fault of this text of magic, of the directory of this number, unless memory ran out
abbrev pub IsFaultIn : List ℕ → ℕ → DirsFault → Type 0
IsFaultIn text number (dirs_fault.Magic i kind offset) = (i ≡ number) × (magic_fault text ≡ Some (Malformed kind offset))
IsFaultIn text number dirs_fault.OutOfMemory = Unit {0}
