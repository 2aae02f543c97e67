-- Lines and sections of the code that stand in a cache.
use Rattle.std.specs.Prelude.{◌≡◌, ℕ, ◌+◌, Bool, true, ◌&&◌, nat_lt, List}
use Rattle.mime_base.specs.Cache.Bytes.{Stands}
use Rattle.mime_base.specs.Format.Header.{HeaderAt, Offsets}
use Rattle.mime_base.specs.Format.Magic.{IsSectionRecord, LinesAt, MagicAt, MaskAt, line_numbers}
use Rattle.mime_base.specs.Format.Records.{CardsAt, RecordsAt}
use Rattle.mime_base.specs.Magic.{Forest, PlainLine, PlainSection, are_allowed, are_allowed_sections, fits_word, is_allowed, line_from}
use Rattle.mime_load.specs.Lent.{lent_mask}
use Rattle.mime_load.specs.declared.own.Own.{Own}

-- start, range and size are small enough, and the word fits the size
abbrev pub is_spellable : ℕ → ℕ → ℕ → ℕ → Bool
is_spellable start range word size =
    nat_lt (start + range + size) 4294967296 && nat_lt size 65536 && fits_word word size

-- a line of the code without its children
abbrev pub plain_own : Own → PlainLine
plain_own own = line_from own.start own.range own.word own.value.now (lent_mask own.mask)

-- A line without its children stands at an offset: that many children, the first of them there.
pub record LineStands (c : List ℕ) (at : ℕ) (own : PlainLine) (count first : ℕ) : Type 0 where
  -- Where its value stands.
  pub value : ℕ
  -- Where its mask stands.
  pub mask : ℕ
  -- Its numbers stand there.
  pub numbers : CardsAt (Stands c) at (line_numbers own value mask count first)
  -- So does its value.
  pub value_stands : Stands c value own.value
  -- So does its mask.
  pub mask_stands : MaskAt (Stands c) mask own.mask
  -- Magic can spell it.
  pub allowed : is_allowed own ≡ true

-- a line of the code without its children stands at an offset
abbrev pub OwnStands : List ℕ → ℕ → Own → Type 0
OwnStands c at own = LineStands c at (plain_own own) own.count own.first

-- Lines with their children stand from an offset on, with at most so many levels.
pub record ForestStands (c : List ℕ) (at levels : ℕ) (lines : Forest) : Type 0 where
  pub stand : LinesAt (Stands c) at lines
  pub allowed : are_allowed levels lines ≡ true

-- A section stands at an offset, and magic can spell it.
pub record SectionStands (c : List ℕ) (at : ℕ) (section : PlainSection) : Type 0 where
  pub numbers : List ℕ
  pub stand : CardsAt (Stands c) at numbers
  pub is : IsSectionRecord (Stands c) section numbers
  pub allowed : are_allowed 64 section.lines ≡ true

-- Sections stand from an offset on, and magic can spell them.
pub record SectionsStand (c : List ℕ) (at : ℕ) (sections : List PlainSection) : Type 0 where
  pub stand : RecordsAt (Stands c) 16 (IsSectionRecord (Stands c)) at sections
  pub allowed : are_allowed_sections sections ≡ true

-- The magic list at an offset is of these sections, and magic can spell them.
pub record MagicStands (c : List ℕ) (at : ℕ) (sections : List PlainSection) : Type 0 where
  -- The list is of these sections.
  pub list : MagicAt (Stands c) at sections
  -- Each line is one that magic can spell.
  pub allowed : are_allowed_sections sections ≡ true

-- The magic list of a cache is of these sections, and magic can spell them.
pub record HasMagic (c : List ℕ) (sections : List PlainSection) : Type 0 where
  -- Where the lists are.
  pub offsets : Offsets
  -- The header says so.
  pub header : HeaderAt (Stands c) offsets
  -- The magic list is there.
  pub magic : MagicStands c offsets.magic sections
