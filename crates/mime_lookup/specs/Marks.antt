-- Marks of names.
use Rattle.std.specs.Prelude.{ℕ, ◌+◌, ◌-◌, ◌*◌, ◌/◌, ◌%◌, ◌^◌, nat_lt, if◌then◌else◌, List, drop, length, take}
use Rattle.std.specs.Int.{from_le_bytes, w64}

-- eight bytes of a text from a place on, as a number whose first byte counts least
abbrev pub eight_from : ℕ → List ℕ → ℕ
eight_from place text = from_le_bytes w64 (take 8 (drop place text))

-- the mark of a name: the first 14 of 64 bits that eight bytes of its middle and its last eight are mixed to, and 0 of a shorter name
unfoldable pub mark : List ℕ → ℕ
mark name =
    if nat_lt (length name) 8 then 0
    else
    ((eight_from (length name / 2 - 4) name * 3 % 2 ^ 64 + eight_from (length name - 8) name) % 2 ^ 64 * 13787848793156543929 % 2 ^ 64) / 2 ^ 50
