-- The magic list of a cache.
use Rattle.std.specs.Prelude.{◌≡◌, ◌<◌, ℕ, ◌+◌, List, [], ◌∷◌, length, Option, Some, None}
use Rattle.mime_base.specs.Format.Records.{CardsAt, RecordsAt, Standing, TextAt}
use Rattle.mime_base.specs.Magic.Extent.{sections_extent}
use Rattle.mime_base.specs.Magic.{Forest, PlainLine, PlainSection, bare, line}

-- how many lines stand side by side
abbrev pub width : Forest → ℕ
width bare = 0
width (line own children rest) = 1 + width rest

-- how many lines there are at all depths
abbrev pub line_count : Forest → ℕ
line_count bare = 0
line_count (line own children rest) = 1 + line_count children + line_count rest

-- the offset of a mask, which is 0 just where there is none
abbrev pub MaskAt : Standing → ℕ → Option (List ℕ) → Type 0
MaskAt S at None = at ≡ 0
MaskAt S at (Some mask) = (0 < at) × S at mask

-- the numbers of a line with that many children, and the offsets of its value, of its mask and of the first child
abbrev pub line_numbers : PlainLine → ℕ → ℕ → ℕ → ℕ → List ℕ
line_numbers own value mask count first =
    own.start ∷ own.range ∷ own.word ∷ length own.value ∷ value ∷ mask ∷ count ∷ first ∷ []

-- lines stand one after another in records of 32 bytes, and the children of each likewise
abbrev pub LinesAt : Standing → ℕ → Forest → Type 0
LinesAt S at bare = Unit {0}
LinesAt S at (line own children rest) =
    (value mask first : ℕ) × CardsAt S at (line_numbers own value mask (width children) first)
    × S value own.value × MaskAt S mask own.mask × LinesAt S first children × LinesAt S (at + 32) rest

-- four numbers: the priority, the offset of the type, how many lines there are, and the offset of the first
abbrev pub IsSectionRecord : Standing → PlainSection → List ℕ → Type 0
IsSectionRecord S section numbers =
    (kind first : ℕ) × (numbers ≡ section.priority ∷ kind ∷ width section.lines ∷ first ∷ [])
    × TextAt S kind section.kind × LinesAt S first section.lines

-- the head: how many sections there are, the extent, and the offset of the first section
pub record MagicAt (S : Standing) (at : ℕ) (sections : List PlainSection) : Type 0 where
  pub first : ℕ
  pub head : CardsAt S at (length sections ∷ sections_extent sections ∷ first ∷ [])
  pub stand : RecordsAt S 16 (IsSectionRecord S) first sections
