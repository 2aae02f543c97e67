-- When a lookup has used up what it may take of a cache: a record for four bytes, and a value byte for each.
use Rattle.std.specs.Prelude.{◌≡◌, ◌⊎◌, ℕ, ◌+◌, ◌-◌, ◌/◌, ◌<◌, ◌≤◌, List, All, length}
use Rattle.mime_base.specs.Cache.Bytes.{field}
use Rattle.mime_view.specs.Asked.{stated_bytes}
use Rattle.mime_view.specs.Magic.{IsMagicLine}
use Rattle.mime_view.specs.declared.budget.Budget.{Budget}

-- Lines of the magic list, no more than that many, together state more than that many value bytes.
pub record StatesMore (c : List ℕ) (most value_bytes : ℕ) : Type 0 where
  -- Where the records of the lines stand, each as often as the line was asked.
  pub lines : List ℕ
  -- Each is a line of the magic list.
  pub each : All (IsMagicLine c (field c 0 6)) lines
  -- There are no more.
  pub few : length lines ≤ most
  -- The value bytes that they state are more.
  pub over : value_bytes < stated_bytes c lines

-- no record is left of a budget, or, where there is content, lines of the magic list, at most one more than the records that were taken,
-- state more value bytes than there were
abbrev pub IsUsedUp : List ℕ → Type 0 → Budget → Budget → Type 0
IsUsedUp c NoContent old left = (left.records ≡ 0)
    ⊎ ((NoContent → ⊥) × StatesMore c (old.records - left.records + 1) old.value_bytes)

-- so it says of a whole lookup that visited that many records, of which not all are kept count of: these are more than a quarter of the
-- cache's length, or, where there is content, lines of the magic list, no more than they are, state more value bytes than the cache has bytes
abbrev pub UsesUp : List ℕ → Type 0 → ℕ → Type 0
UsesUp c NoContent nodes = (length c / 4 < nodes) ⊎ ((NoContent → ⊥) × StatesMore c nodes (length c))
