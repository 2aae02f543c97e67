-- Lines of magic by the place and the byte that they look at first.
use Rattle.std.specs.Prelude.{◌≡◌, ◌⊎◌, ℕ, zero, suc, ◌+◌, ◌-◌, ◌*◌, ◌<◌, ◌≤◌, true, false, List, Contains, length, slice_index, get_or}
use Rattle.mime_base.specs.Magic.Holds.{line_holds}
use Rattle.mime_base.specs.declared.magic.host.Host.{Host}
use Rattle.mime_lookup.specs.TopLines.{PlainTop}
use Rattle.mime_lookup.specs.declared.indexed.line_head.LineHead.{LineHead}
use Rattle.mime_lookup.specs.declared.indexed.tables.Tables.{Tables}

-- from a line that is named on the next ones that are named lead to another line in that many steps, each after the one before
-- it, and all after the first `low`
abbrev pub LeadsChain : ℕ → List ℕ → ℕ → ℕ → ℕ → Type 0
LeadsChain zero nexts low link line = ⊥
LeadsChain (suc steps) nexts low link line = (low < link) × ((link ≡ line + 1) ⊎ LeadsChain steps nexts link (slice_index nexts (link - 1)) line)

-- A line with this head has one place, and this is where the first line of its place and its byte is named.
pub record IsSlot (places : List ℕ) (slot : ℕ) (head : LineHead) : Type 0 where
  pub one : head.range ≡ 1
  pub known : 0 < head.size
  pub table : ℕ
  pub inside : table < length places
  pub place : slice_index places table ≡ head.start
  pub byte : head.first < 256
  pub slot_is : slot ≡ table * 256 + head.first

-- A line with this head is found from its slot on.
pub record IsInTable (tables : Tables) (low line : ℕ) (head : LineHead) : Type 0 where
  pub slot : ℕ
  pub is : IsSlot tables.places.items slot head
  pub steps : ℕ
  pub leads : LeadsChain steps tables.nexts.items low (slice_index tables.firsts.items slot) line

-- Each line from `low` on is found or is one of the others.
pub record AreTables (tables : Tables) (heads : List LineHead) (low : ℕ) : Type 0 where
  pub size : length tables.nexts.items ≡ length heads
  pub slots : length tables.firsts.items ≡ length tables.places.items * 256
  pub each : (line : ℕ) (head : LineHead) → low ≤ line → line < length heads → head ≡ get_or heads line head
      → Contains tables.others.items line ⊎ IsInTable tables low line head

-- These lines are all of one owner, and are listed from the last to the first.
pub record OwnsOthers (others : List ℕ) (owner : ℕ → ℕ) (this lines : ℕ) : Type 0 where
  -- They are of this owner.
  pub own : (i : ℕ) → i < length others → owner (slice_index others i) ≡ this
  -- They are lines.
  pub inside : (i : ℕ) → i < length others → slice_index others i < lines
  -- Each comes after the next in the list.
  pub falls : (i : ℕ) → i + 1 < length others → slice_index others (i + 1) < slice_index others i

-- Each line from `low` on has one owner: the table that names it, or, if none does, the number of all tables.
pub record OwnsLines (tables : Tables) (owner : ℕ → ℕ) (lines low : ℕ) : Type 0 where
  -- There are no more tables than lines.
  pub few : length tables.places.items ≤ lines
  -- A slot of a table names a line that it owns.
  pub named : (table byte line : ℕ) → byte < 256 → slice_index tables.firsts.items (table * 256 + byte) ≡ line + 1
      → (low ≤ line) × (owner line ≡ table)
  -- A line of a table names one that the same table owns.
  pub next : (line after : ℕ) → low ≤ line → owner line < length tables.places.items
      → slice_index tables.nexts.items line ≡ after + 1 → (low ≤ after) × (owner after ≡ owner line)
  -- No table owns the others.
  pub others : OwnsOthers tables.others.items owner (length tables.places.items) lines
  -- They are none before `low`.
  pub late : (i : ℕ) → i < length tables.others.items → low ≤ slice_index tables.others.items i

-- Of lines with these heads those from `low` on are put into tables, or to the others.
pub record HaveLines (tables : Tables) (heads : List LineHead) (low : ℕ) : Type 0 where
  pub most : length tables.places.items ≤ 256
  -- There are no more tables than lines from `low` on.
  pub few : length tables.places.items + low ≤ length heads
  pub found : AreTables tables heads low
  pub owned : (owner : ℕ → ℕ) × OwnsLines tables owner (length heads) low

-- Tables may have one more, which names no line.
pub record GrowTables (old new : Tables) : Type 0 where
  pub more : length old.places.items ≤ length new.places.items
  pub one : length new.places.items ≤ length old.places.items + 1
  pub most : length old.places.items ≤ 256 → length new.places.items ≤ 256
  pub slots : length new.firsts.items ≡ length new.places.items * 256
  pub places : (table : ℕ) → table < length old.places.items → slice_index new.places.items table ≡ slice_index old.places.items table
  pub firsts : (slot : ℕ) → slice_index new.firsts.items slot ≡ slice_index old.firsts.items slot
  pub nexts : new.nexts.items ≡ old.nexts.items
  pub others : new.others.items ≡ old.others.items

-- The lines that one leads to are all of one owner.
pub record LeadsOwn (nexts : List ℕ) (owner : ℕ → ℕ) (this link : ℕ) : Type 0 where
  -- The one that is named is.
  pub named : (line : ℕ) → link ≡ line + 1 → owner line ≡ this
  -- Each of its lines names one of its lines.
  pub next : (line after : ℕ) → owner line ≡ this → slice_index nexts line ≡ after + 1 → owner after ≡ this

-- One of the tables is there, with the links of the lines.
pub record HasTable (tables : Tables) (lines table : ℕ) : Type 0 where
  -- Each line has its link.
  pub size : length tables.nexts.items ≡ lines
  -- The table has its place.
  pub place : table < length tables.places.items
  -- It has a slot for each byte.
  pub slots : table * 256 + 256 ≤ length tables.firsts.items

-- a line doesn't hold
abbrev pub FailsLine : List PlainTop → List ℕ → Host → ℕ → Type 0
FailsLine tops content host line =
    (top : PlainTop) → line < length tops → top ≡ get_or tops line top → line_holds top.line content host ≡ false

-- a line holds
abbrev pub Holds : List PlainTop → List ℕ → Host → ℕ → Type 0
Holds tops content host line =
    (top : PlainTop) → top ≡ get_or tops line top → line_holds top.line content host ≡ true

-- of the lines that a line leads to, itself and those after it, none before `until` holds
abbrev pub ChainFails : List PlainTop → List ℕ → Host → List ℕ → ℕ → ℕ → Type 0
ChainFails tops content host nexts link until =
    (line steps : ℕ) → LeadsChain steps nexts 0 link line → line < until → FailsLine tops content host line

-- of the lines that a table names for the byte that stands at its place none before `until` holds
abbrev pub TableFails : List PlainTop → List ℕ → Host → Tables → ℕ → ℕ → Type 0
TableFails tops content host tables until table =
    slice_index tables.places.items table < length content
    → ChainFails tops content host tables.nexts.items
    (slice_index tables.firsts.items (table * 256 + slice_index content (slice_index tables.places.items table))) until

-- so it is with the tables before this one
abbrev pub TablesFail : List PlainTop → List ℕ → Host → Tables → ℕ → ℕ → Type 0
TablesFail tops content host tables until end = (table : ℕ) → table < end → TableFails tops content host tables until table

-- of the lines asked by themselves, from this one on, none before `until` holds
abbrev pub OthersFail : List PlainTop → List ℕ → Host → List ℕ → ℕ → ℕ → Type 0
OthersFail tops content host others until from =
    (i : ℕ) → from ≤ i → i < length others → slice_index others i < until → FailsLine tops content host (slice_index others i)

-- A line that was found to hold is none after the one before it.
pub record Narrows (tops : List PlainTop) (content : List ℕ) (host : Host) (old new : ℕ) : Type 0 where
  pub less : new ≤ old
  pub holds : new < old → Holds tops content host new

-- No line before `first` holds, and that one does, if there is one.
pub record IsFirst (tops : List PlainTop) (content : List ℕ) (host : Host) (first : ℕ) : Type 0 where
  pub within : first ≤ length tops
  pub before : (line : ℕ) → line < first → FailsLine tops content host line
  pub holds : first < length tops → Holds tops content host first
