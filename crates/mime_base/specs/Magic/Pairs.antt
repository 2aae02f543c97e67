-- Places at which two bytes stand side by side.
use Rattle.std.specs.Prelude.{◌≡◌, ℕ, ◌+◌, ◌<◌, ◌==◌, List, take, slice_index}
use Rattle.std.specs.List.{count_by}

-- that many places from the front on were skipped, and the first byte stands at that many of them
pub record PassesPairs (first second : ℕ) (bytes : List ℕ) (passed firsts : ℕ) : Type 0 where
  -- Both bytes stand at none of them.
  pub none : (i : ℕ) → i < passed → slice_index bytes i ≡ first → slice_index bytes (i + 1) ≡ second → ⊥
  -- The first is counted.
  pub counted : firsts ≡ count_by (λ b. b == first) (take passed bytes)

-- where fewer than `count` places were skipped, both bytes stand at the next
pub record StopsAtPair (first second : ℕ) (bytes : List ℕ) (count passed : ℕ) : Type 0 where
  -- The first byte stands there.
  pub is_first : passed < count → slice_index bytes passed ≡ first
  -- The second stands after it.
  pub is_second : passed < count → slice_index bytes (passed + 1) ≡ second
