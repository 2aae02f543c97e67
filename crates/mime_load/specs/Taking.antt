-- What is taken of the room of a cache.
use Rattle.std.specs.Prelude.{◌≡◌, ◌≤◌, ℕ, ◌+◌, ◌*◌, List, length}
use Rattle.mime_base.specs.Format.Magic.{line_count}
use Rattle.mime_base.specs.Format.Packed.{forest_value_length, matchlet_count, value_length}
use Rattle.mime_base.specs.Magic.{Forest, PlainSection}
use Rattle.mime_load.specs.declared.taking.Taking.{Taking}

-- What was looked at was taken from the room, but for that many records and texts: four bytes for each record that was visited, and
-- for two bytes that were read a value byte or the 32nd of a record's byte.
pub record PaysFor (nodes texts : ℕ) (old new : Taking) : Type 0 where
  pub nodes_paid : 4 * new.meter.nodes + new.records ≤ 4 * old.meter.nodes + old.records + 4 * nodes
  pub bytes_paid : new.meter.bytes + (2 * new.value_bytes + 64 * new.records)
      ≤ old.meter.bytes + (2 * old.value_bytes + 64 * old.records) + 256 * texts

-- Of the room only records are taken, and what was looked at was taken, but for that many records and texts.
pub record TakesOnlyRecords (nodes texts : ℕ) (old new : Taking) : Type 0 where
  -- No room of values is taken.
  pub value_bytes : new.value_bytes ≡ old.value_bytes
  -- What was looked at was taken, but for that many.
  pub pays : PaysFor nodes texts old new

-- That many records and texts are looked at, and nothing is taken of the room.
pub record OnlyLooks (nodes texts : ℕ) (old new : Taking) : Type 0 where
  -- No room of records is taken.
  pub records : new.records ≡ old.records
  -- Nor any of values.
  pub takes : TakesOnlyRecords nodes texts old new

-- A record of that many bytes is taken and visited, or the room is too small, or it is not there.
pub record VisitsRecord (bytes : ℕ) (old new : Taking) : Type 0 where
  -- No room of values is taken.
  pub value_bytes : new.value_bytes ≡ old.value_bytes
  -- No byte is counted.
  pub no_bytes : new.meter.bytes ≡ old.meter.bytes
  -- What is left for records never rises.
  pub falls : new.records ≤ old.records
  -- Each record that was visited was taken with that many bytes.
  pub paid : bytes * new.meter.nodes + new.records ≤ bytes * old.meter.nodes + old.records

-- What was looked at was taken, and each record with sixteen bytes or more, but for that many records.
pub record PaysWide (nodes : ℕ) (old new : Taking) : Type 0 where
  -- What was looked at was taken.
  pub pays : PaysFor nodes 0 old new
  -- Each record that was visited took sixteen bytes at least.
  pub wide : 16 * new.meter.nodes + new.records ≤ 16 * old.meter.nodes + old.records + 16 * nodes

-- Lines at all depths took a record each, and their values their bytes.
pub record TakesLines (old new : Taking) (lines : Forest) : Type 0 where
  pub records : new.records + 32 * line_count lines ≡ old.records
  pub value_bytes : new.value_bytes + forest_value_length lines ≡ old.value_bytes

-- There is room for lines at all depths, and for their values.
pub record HasRoomForLines (t : Taking) (lines : Forest) : Type 0 where
  pub records : 32 * line_count lines ≤ t.records
  pub value_bytes : forest_value_length lines ≤ t.value_bytes

-- Sections took a record each, and their lines what lines take.
pub record TakesSections (old new : Taking) (sections : List PlainSection) : Type 0 where
  pub records : new.records + (16 * length sections + 32 * matchlet_count sections) ≡ old.records
  pub value_bytes : new.value_bytes + value_length sections ≡ old.value_bytes

-- There is room for sections and their lines.
pub record HasSectionRoom (t : Taking) (sections : List PlainSection) : Type 0 where
  pub records : 16 * length sections + 32 * matchlet_count sections ≤ t.records
  pub value_bytes : value_length sections ≤ t.value_bytes
