-- Lines and sections that are read, and put after others.
use Rattle.std.specs.Prelude.{◌≡◌, ℕ, List, [], ◌∷◌, ◌++◌, length, map}
use Rattle.std.specs.List.{flat_map}
use Rattle.mime_base.specs.Format.Magic.{line_count, width}
use Rattle.mime_base.specs.Magic.{Forest, PlainLine, PlainSection, bare, line}
use Rattle.mime_load.specs.Lent.{plain_line}
use Rattle.mime_load.specs.MagicStanding.{ForestStands, SectionStands, SectionsStand}
use Rattle.mime_load.specs.Taking.{TakesLines, TakesSections}
use Rattle.mime_load.specs.declared.line.LentLine.{LentLine}
use Rattle.mime_load.specs.declared.section.LentSection.{LentSection}
use Rattle.mime_load.specs.declared.taking.Taking.{Taking}

-- a line of the code, and how many are below it
abbrev pub plain_entry : LentLine → PlainLine × ℕ
plain_entry m = (plain_line m, m.below)

-- the lines of a forest, each with the number of those below it, and right before these
abbrev pub flat : Forest → List (PlainLine × ℕ)
flat bare = []
flat (line own children rest) = (own, line_count children) ∷ (flat children ++ flat rest)

-- Lines that stand from an offset on, side by side, were put after others with those below them, and took their room.
pub record AddsLines (c : List ℕ) (at levels many : ℕ) (old new : List LentLine) (before after : Taking) : Type 0 where
  -- The lines.
  pub lines : Forest
  -- They come after the others.
  pub are : map plain_entry new ≡ map plain_entry old ++ flat lines
  -- So many stand side by side.
  pub count : width lines ≡ many
  -- They stand there.
  pub stand : ForestStands c at levels lines
  -- They took their room.
  pub taken : TakesLines before after lines

-- All lines after the one at a place are below it, and it has their number; nothing else changed.
pub record SetsBelow (place : ℕ) (old new : List LentLine) : Type 0 where
  -- The entries are the same but for that one's number.
  pub are : (front : List (PlainLine × ℕ)) (own : PlainLine) (below : ℕ) (back : List (PlainLine × ℕ)) → length front ≡ place
      → map plain_entry old ≡ front ++ (own, below) ∷ back → map plain_entry new ≡ front ++ (own, length back) ∷ back

-- what a section gives, and how many lines it has
abbrev pub plain_head : LentSection → ℕ × List ℕ × ℕ
plain_head s = (s.priority, s.kind.now, s.lines)

-- the same of a plain one
abbrev pub head_of : PlainSection → ℕ × List ℕ × ℕ
head_of s = (s.priority, s.kind, line_count s.lines)

-- A section that stands at an offset has its lines put after others, and took its room.
pub record AddsSection (c : List ℕ) (at : ℕ) (section : LentSection) (old new : List LentLine) (before after : Taking) : Type 0 where
  -- The section.
  pub plain : PlainSection
  -- That of the code gives the same, and has as many lines.
  pub is : plain_head section ≡ head_of plain
  -- Its lines come after the others.
  pub are : map plain_entry new ≡ map plain_entry old ++ flat plain.lines
  -- It stands there.
  pub stands : SectionStands c at plain
  -- It took its room.
  pub taken : TakesSections before after (plain ∷ [])

-- Sections of the code and their lines are these sections.
pub record AreSections (sections : List LentSection) (lines : List LentLine) (plain : List PlainSection) : Type 0 where
  pub heads : map plain_head sections ≡ map head_of plain
  pub flat_lines : map plain_entry lines ≡ flat_map (λ s. flat s.lines) plain

-- Sections that stand from an offset on were read with their lines, and took their room.
pub record ReadsSections (c : List ℕ) (first : ℕ) (sections : List LentSection) (lines : List LentLine) (before after : Taking) : Type 0 where
  -- The sections.
  pub plain : List PlainSection
  -- Those of the code are these.
  pub are : AreSections sections lines plain
  -- They stand there.
  pub stand : SectionsStand c first plain
  -- They took their room.
  pub taken : TakesSections before after plain
