-- Pairs of bytes that stand near the front of a content.
use Rattle.std.specs.Prelude.{◌≡◌, ℕ, ◌+◌, ◌*◌, ◌<◌, ◌≤◌, List, length, slice_index, get_or}
use Rattle.mime_lookup.specs.declared.indexed.line_head.LineHead.{LineHead}

-- Of each pair of bytes a place is noted, by those of the first 288 places that are not before `start`.
pub record NotesPairs (start : ℕ) (places bytes : List ℕ) : Type 0 where
  -- Where a pair stands, a place is noted under its number that is no later, and not 255, which is none.
  pub no_later : (place : ℕ) → start ≤ place → place < 288 → place + 1 < length bytes
      → (slice_index places (slice_index bytes place * 8 + slice_index bytes (place + 1)) ≤ place)
      × (slice_index places (slice_index bytes place * 8 + slice_index bytes (place + 1)) < 255)

-- no pair at the first 288 places has this number
abbrev pub LacksNumber : ℕ → List ℕ → Type 0
LacksNumber number bytes = (place : ℕ) → place < 288 → place + 1 < length bytes →
    slice_index bytes place * 8 + slice_index bytes (place + 1) ≡ number → ⊥

-- A pair with this number stands near the front of each content in which the bytes of a head stand.
pub record IsPairOf (number : ℕ) (head : LineHead) : Type 0 where
  pub is : number ≡ head.third * 8 + head.fourth
  pub inside : head.skip + 1 < head.size
  pub front : head.start + head.range + head.skip ≤ 288

-- the number is that of a pair of the head at a place, or none
abbrev pub IsPairAt : ℕ → List LineHead → ℕ → Type 0
IsPairAt number heads line =
    number < 2296 → (head : LineHead) → line < length heads → head ≡ get_or heads line head → IsPairOf number head

-- Each of these lines has the number of a pair of its head, or none.
pub record ArePaired (pairs others : List ℕ) (heads : List LineHead) : Type 0 where
  pub size : length pairs ≡ length others
  pub each : (i : ℕ) → i < length pairs → IsPairAt (slice_index pairs i) heads (slice_index others i)
