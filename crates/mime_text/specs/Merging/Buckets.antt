-- Places of keys in a table, where most keys are alone.
use Rattle.std.specs.Prelude.{ℕ, ◌≡◌, ◌<◌, ◌+◌, ◌*◌, ◌%◌, ◌^◌, ◌==◌, min, Bool, List, [], ◌∷◌, length, slice_index, if◌then◌else◌}
use Rattle.mime_text.specs.Merging.{tail_of}

-- the place of a name in a table of this size, by its last eight bytes, which an odd number spreads, and its length
unfoldable pub bucket : ℕ → List ℕ → ℕ
bucket size name = (tail_of name * 18397679294719823053 % 2 ^ 64 + length name) % 2 ^ 64 % size

-- how many of these keys have this place
abbrev pub times : ℕ → ℕ → List (List ℕ × List ℕ) → ℕ
times size place [] = 0
times size place (key ∷ keys) = (if bucket size key.0 == place then 1 else 0) + times size place keys

-- the counts say of each place whether none of these keys has it, one, or more
abbrev pub AreCounts : List ℕ → List (List ℕ × List ℕ) → Type 0
AreCounts counts keys = (place : ℕ) → place < length counts → slice_index counts place ≡ min 2 (times (length counts) place keys)

-- whether just one key has the place of this name
abbrev pub is_alone : List ℕ → List ℕ → Bool
is_alone counts name = slice_index counts (bucket (length counts) name) == 1
