-- Paths and texts of bytes that are not zero.
use Rattle.std.specs.Prelude.{◌<◌, ℕ, Bool, ◌&&◌, nat_lt, List, [], ◌∷◌, length}
use Rattle.std.specs.List.{list_all}

-- no byte is 0
abbrev pub NoZero : List ℕ → Type 0
NoZero [] = Unit {0}
NoZero (x ∷ xs) = (0 < x) × NoZero xs

-- the same as a test
abbrev pub has_no_zero : List ℕ → Bool
has_no_zero path = list_all (λ b. nat_lt 0 b) path

-- whether a cache may hold it as a text: no byte is 0, and there are at most 255
unfoldable pub fits_text : List ℕ → Bool
fits_text text = has_no_zero text && nat_lt (length text) 256
