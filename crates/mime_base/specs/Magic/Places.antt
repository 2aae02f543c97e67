-- Where the bytes of a content first stand.
use Rattle.std.specs.Prelude.{◌<◌, ◌≤◌, ℕ, List, length, slice_index}

-- of each byte a place is noted, by those of the first 288 places that are not before `start`
pub record NotesFrom (start : ℕ) (noted bytes : List ℕ) : Type 0 where
  -- Where a byte stands, a place is noted that is no later.
  pub no_later : (place : ℕ) → start ≤ place → place < 288 → place < length bytes
      → slice_index noted (slice_index bytes place) ≤ place
