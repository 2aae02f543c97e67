-- When a cache has a byte for each that its records and its values need. This project's own.
use Rattle.std.specs.Prelude.{◌≤◌, ℕ, ◌+◌, ◌*◌, List, length, sum_by}
use Rattle.mime_base.specs.Database.{PlainDatabase}
use Rattle.mime_base.specs.Format.Magic.{line_count}
use Rattle.mime_base.specs.Format.Stored.{glob_rules, literal_rules}
use Rattle.mime_base.specs.Format.SuffixTree.{tree_size}
use Rattle.mime_base.specs.Magic.{Forest, PlainSection, bare, line}

-- how many lines all sections have
abbrev pub matchlet_count : List PlainSection → ℕ
matchlet_count sections = sum_by (λ section. line_count section.lines) sections

-- how long the values of all lines are together
abbrev pub forest_value_length : Forest → ℕ
forest_value_length bare = 0
forest_value_length (line own children rest) =
    length own.value + forest_value_length children + forest_value_length rest

-- how many bytes the values of all lines have
abbrev pub value_length : List PlainSection → ℕ
value_length sections = sum_by (λ section. forest_value_length section.lines) sections

-- the bytes of records that a reader may visit
abbrev pub record_bytes : PlainDatabase → ℕ
record_bytes b =
    12 * (length (literal_rules b.rules) + length (glob_rules b.rules) + tree_size b.rules) + 16 * length b.sections
    + 32 * matchlet_count b.sections + 4 * length b.parents + 8 * (length b.icons + length b.generic_icons)

-- the records that a reader may visit, and the values, take no more bytes than the cache has
pub record Packed (c : List ℕ) (b : PlainDatabase) : Type 0 where
  pub records : record_bytes b ≤ length c
  pub values : value_length b.sections ≤ length c
