-- Folding: without case, the capitals A to Z are compared as small letters.
use Rattle.std.specs.Prelude.{ℕ, ◌+◌, Bool, ◌&&◌, ◌==◌, nat_le, if◌then◌else◌, List, map}

-- A to Z (65 to 90) become a to z
abbrev pub folded : ℕ → ℕ
folded b = if nat_le 65 b && nat_le b 90 then b + 32 else b

-- what is compared of a byte: the byte, or folded
abbrev pub compared_byte : Bool → ℕ → ℕ
compared_byte cased b = if cased then b else folded b

-- what is compared of a text
abbrev pub compared : Bool → List ℕ → List ℕ
compared cased text = map (compared_byte cased) text

-- two bytes are compared as one
abbrev pub agrees : Bool → ℕ × ℕ → Bool
agrees cased pair = compared_byte cased pair.0 == compared_byte cased pair.1
