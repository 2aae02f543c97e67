-- Sections and lines of magic as plain values, and what magic can spell of them.
pub mod Masking
pub mod Mirrored
pub mod Extent
pub mod Holds
pub mod HoldsRows
pub mod Ranges
pub mod Pairs
pub mod Places
pub mod Textual
pub mod WindowBytes
use Rattle.std.specs.Prelude.{ℕ, zero, suc, ◌+◌, ◌%◌, Bool, true, false, ◌&&◌, ◌||◌, ◌==◌, nat_lt, List, [], ◌∷◌, map}
use Rattle.std.specs.Prelude.{length, Option, Some, None}
use Rattle.std.specs.List.{list_all}
use Rattle.std.specs.List.Sorted.{IsSortedBy}
use Rattle.std.specs.Global.{Vec}
use Rattle.mime_base.specs.declared.magic.matchlet.Matchlet.{Matchlet}
use Rattle.mime_base.specs.declared.magic.matchlet.Matchlet.TheOpen.{Matchlet-F}
use Rattle.mime_base.specs.declared.magic.matchlet.Matchlet.TheFolds.{fold-Matchlet}
use Rattle.mime_base.specs.declared.magic.Section.{Section}

-- a line of magic without its indent and its children
pub record PlainLine : Type 0 where
  pub start : ℕ
  pub range : ℕ
  pub word : ℕ
  pub value : List ℕ
  pub mask : Option (List ℕ)

-- a line from its parts
abbrev pub line_from : ℕ → ℕ → ℕ → List ℕ → Option (List ℕ) → PlainLine
line_from start range word value mask =
    record { start = start; range = range; word = word; value = value; mask = mask }

-- no line; or a first line, its children, and the lines after it
pub data Forest : Type 0 where
  bare : Forest
  line : PlainLine → Forest → Forest → Forest

-- a section with its lines as a forest
pub record PlainSection : Type 0 where
  pub priority : ℕ
  pub kind : List ℕ
  pub lines : Forest

-- a line with its children
pub record PlainMatchlet : Type 0 where
  pub own : PlainLine
  pub children : Forest

-- a list of matchlets as a forest
abbrev pub forest_of : List PlainMatchlet → Forest
forest_of [] = bare
forest_of (first ∷ others) = line first.own first.children (forest_of others)

-- ---- the values of the code

-- the bytes of a mask that is there
abbrev pub mask_bytes : Option (Vec ℕ) → Option (List ℕ)
mask_bytes None = None
mask_bytes (Some mask) = Some mask.items

-- a matchlet of the code whose children are plain already
abbrev pub plain_matchlet_over : Matchlet-F PlainMatchlet → PlainMatchlet
plain_matchlet_over m = record {
  own = line_from m.start m.range m.word m.value.items (mask_bytes m.mask);
  children = forest_of m.children.items;
}

-- a matchlet of the code, with its children
abbrev pub plain_matchlet : Matchlet → PlainMatchlet
plain_matchlet = fold-Matchlet PlainMatchlet plain_matchlet_over

-- matchlets of the code
abbrev pub plain_matchlets : List Matchlet → List PlainMatchlet
plain_matchlets matchlets = map plain_matchlet matchlets

-- a section of the code
abbrev pub plain_section : Section → PlainSection
plain_section s =
    record { priority = s.priority; kind = s.kind; lines = forest_of (plain_matchlets s.lines.items) }

-- sections of the code
abbrev pub plain_sections : List Section → List PlainSection
plain_sections sections = map plain_section sections

-- ---- what magic allows

-- a word of 1, 2 or 4 that divides the length of the value
abbrev pub fits_word : ℕ → ℕ → Bool
fits_word word size = word == 1 || (word == 2 && size % 2 == 0) || (word == 4 && size % 4 == 0)

-- a mask has as many bytes as the value
abbrev pub fits_mask : Option (List ℕ) → ℕ → Bool
fits_mask None size = true
fits_mask (Some mask) size = length mask == size

-- the sum is below 2 ^ 32, the value has at most 65,535 bytes, and word and mask fit it
abbrev pub is_allowed : PlainLine → Bool
is_allowed own =
    nat_lt (own.start + own.range + length own.value) 4294967296 && nat_lt (length own.value) 65536
    && fits_word own.word (length own.value) && fits_mask own.mask (length own.value)

-- each line is allowed, and there are at most that many levels
abbrev pub are_allowed : ℕ → Forest → Bool
are_allowed levels bare = true
are_allowed zero (line own children rest) = false
are_allowed (suc levels) (line own children rest) =
    is_allowed own && are_allowed levels children && are_allowed (suc levels) rest

-- the lines of each section are allowed, with at most 64 levels
abbrev pub are_allowed_sections : List PlainSection → Bool
are_allowed_sections sections = list_all (λ section. are_allowed 64 section.lines) sections

-- no section has a higher priority than the one before it
abbrev pub FallByPriority : List PlainSection → Type 0
FallByPriority sections = IsSortedBy (λ left right. nat_lt right.priority left.priority) sections
