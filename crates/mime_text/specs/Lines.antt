pub mod Rows
pub mod File
pub mod Names
pub mod Globs2
pub mod Globs2Rows
pub mod Pairs
pub mod PairsRows
pub mod Icons
pub mod IconsRows
-- The lines of a text, their fields and their numbers.
use Rattle.std.specs.Prelude.{ℕ, ◌==◌, ◌↔◌, Bool, true, if◌then◌else◌, List, [], ◌∷◌, map, filter, Contains}
use Rattle.std.specs.List.{enumerate_from, onto_first, slice_split}

-- the bytes up to each newline (10), and those after the last newline, if any
abbrev pub lines : List ℕ → List (List ℕ)
lines [] = []
lines (b ∷ rest) = if b == 10 then [] ∷ lines rest else onto_first b (lines rest)

-- what stands between the separators of a line
abbrev pub line_fields : ℕ → List ℕ → List (List ℕ)
line_fields separator line = slice_split (λ b. b == separator) line

-- an empty line, or one that begins with # (35)
abbrev pub is_passed : List ℕ → Bool
is_passed [] = true
is_passed (b ∷ _) = b == 35

-- the numbers of the lines that pass a test, where the first line has the number n
abbrev pub numbers : (List ℕ → Bool) → ℕ → List (List ℕ) → List ℕ
numbers test n text_lines =
    map (λ line. line.0) (filter (λ line. test line.1) (enumerate_from n text_lines))

-- the numbers of the malformed lines of a text, counted from 1
unfoldable pub skipped_of : (List ℕ → Bool) → List ℕ → List ℕ
skipped_of is_malformed text = numbers is_malformed 1 (lines text)

-- a list has just the members of another, in whatever order and however often
abbrev pub HasJust : List (List ℕ) → List (List ℕ) → Type 0
HasJust kinds members = (kind : List ℕ) → Contains kinds kind ↔ Contains members kind
