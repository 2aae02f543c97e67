-- The first part of a cache that is not read back.
use Rattle.std.specs.Prelude.{◌≡◌, ◌≤◌, ℕ, ◌+◌, ◌*◌, List, [], ◌∷◌, length, slice_index}
use Rattle.mime_base.specs.Cache.Bytes.{Stands}
use Rattle.mime_base.specs.Format.Packed.{matchlet_count, value_length}
use Rattle.mime_base.specs.Format.Pairs.{PairsAt}
use Rattle.mime_base.specs.Format.Parents.{ParentsAt}
use Rattle.mime_base.specs.Format.SuffixTree.{tree_size}
use Rattle.mime_base.specs.Magic.{PlainSection}
use Rattle.mime_base.specs.declared.database.rule.GlobRule.{GlobRule}
use Rattle.mime_load.specs.MagicStanding.{MagicStands}
use Rattle.mime_load.specs.Parts.{IsGlobList, IsLiteralList, IsTreeList}
use Rattle.mime_load.specs.Whole.{IsHeader}
use Rattle.mime_load.specs.declared.part.Part.{Part}
use Rattle.mime_load.specs.declared.part.Part.TheVariants.{Header, Aliases, Subclasses, Literals, Suffixes, Globs, Magic, Icons, GenericIcons}

-- the list of a part stands where the numbers of a header say, and its records take the room that is left down to what is left then
abbrev pub PartStands : (c numbers : List ℕ) → Part → (old new : ℕ) → Type 0
PartStands c numbers Header old new = (old ≡ new)
PartStands c numbers Aliases old new =
    (pairs : List (List ℕ × List ℕ)) × PairsAt (Stands c) (slice_index numbers 1) pairs × (new ≡ old)
PartStands c numbers Subclasses old new =
    (pairs : List (List ℕ × List ℕ)) × ParentsAt (Stands c) (slice_index numbers 2) pairs × (new + 4 * length pairs ≡ old)
PartStands c numbers Literals old new =
    (rules : List GlobRule) × IsLiteralList c (slice_index numbers 3) rules × (new + 12 * length rules ≡ old)
PartStands c numbers Suffixes old new =
    (rules : List GlobRule) × IsTreeList c (slice_index numbers 4) rules × (new + 12 * tree_size rules ≡ old)
PartStands c numbers Globs old new =
    (rules : List GlobRule) × IsGlobList c (slice_index numbers 5) rules × (new + 12 * length rules ≡ old)
PartStands c numbers Magic old new =
    (sections : List PlainSection) × MagicStands c (slice_index numbers 6) sections × (value_length sections ≤ length c)
    × (new + (16 * length sections + 32 * matchlet_count sections) ≡ old)
PartStands c numbers Icons old new =
    (pairs : List (List ℕ × List ℕ)) × PairsAt (Stands c) (slice_index numbers 8) pairs × (new + 8 * length pairs ≡ old)
PartStands c numbers GenericIcons old new =
    (pairs : List (List ℕ × List ℕ)) × PairsAt (Stands c) (slice_index numbers 9) pairs × (new + 8 * length pairs ≡ old)

-- the parts stand, one after the other
abbrev pub PartsStand : (c numbers : List ℕ) → List Part → (old new : ℕ) → Type 0
PartsStand c numbers [] old new = (new ≡ old)
PartsStand c numbers (part ∷ parts) old new =
    (left : ℕ) × PartStands c numbers part old left × PartsStand c numbers parts left new

-- the parts that are read back between the header and one
abbrev pub before : Part → List Part
before Header = []
before Aliases = []
before Subclasses = Aliases ∷ []
before Literals = Aliases ∷ Subclasses ∷ []
before Suffixes = Aliases ∷ Subclasses ∷ Literals ∷ []
before Globs = Aliases ∷ Subclasses ∷ Literals ∷ Suffixes ∷ []
before Magic = Aliases ∷ Subclasses ∷ Literals ∷ Suffixes ∷ Globs ∷ []
before Icons = Aliases ∷ Subclasses ∷ Literals ∷ Suffixes ∷ Globs ∷ Magic ∷ []
before GenericIcons = Aliases ∷ Subclasses ∷ Literals ∷ Suffixes ∷ Globs ∷ Magic ∷ Icons ∷ []

-- The parts before one stand, in the cache's length, and it doesn't in what they leave.
pub record StopsAt (c : List ℕ) (part : Part) : Type 0 where
  -- What the header says.
  pub numbers : List ℕ
  pub header : IsHeader c numbers
  -- What the parts before leave.
  pub left : ℕ
  pub stand : PartsStand c numbers (before part) (length c) left
  -- The part stands nowhere in that.
  pub none : (new : ℕ) → PartStands c numbers part left new → ⊥

-- it is the first that isn't read back
abbrev pub IsFirstUnread : List ℕ → Part → Type 0
IsFirstUnread c Header = (numbers : List ℕ) → IsHeader c numbers → ⊥
IsFirstUnread c part = StopsAt c part
