-- How many bytes an index of magic looks at and compares for a content at most. This project's own.
use Rattle.std.specs.Prelude.{◌≡◌, refl, ℕ, zero, suc, ◌+◌, ◌*◌, ◌==◌, nat_lt, min, if◌then◌else◌}
use Rattle.std.specs.Prelude.{List, [], ◌∷◌, length, map, slice_index, None, codes}
use Rattle.std.specs.List.{sum_by}
use Rattle.mime_base.specs.Magic.WindowBytes.{forest_bytes, line_bytes, window_bytes, windows_in}
use Rattle.mime_base.specs.Magic.{bare, line, line_from}
use Rattle.mime_lookup.specs.TopLines.{PlainTop}

-- what is looked at for a line of indent 0 in a content of that length: each window of its own once, for its head, and the bytes of
-- its windows and of those of the lines below it
abbrev pub top_bytes : ℕ → PlainTop → ℕ
top_bytes size top = windows_in size top.line.own + line_bytes size top.line

-- for all lines, each once, with the places of the front, and one for each table and each line
unfoldable pub index_bytes : ℕ → List PlainTop → ℕ
index_bytes size tops = min size 288 + 2 * length tops + sum_by (top_bytes size) tops

-- for the line with this number, with one for the line
unfoldable pub asked_bytes : ℕ → List PlainTop → ℕ → ℕ
asked_bytes size tops number = slice_index (map (top_bytes size) tops) number + 1

-- the sum, over the lines before `end`, of those that this one owns
unfoldable pub owned_sum : (ℕ → ℕ) → (ℕ → ℕ) → ℕ → ℕ → ℕ
owned_sum bytes owner this zero = 0
owned_sum bytes owner this (suc end) = owned_sum bytes owner this end + (if owner end == this then bytes end else 0)

-- the sum of those that one before this one owns
unfoldable pub sum_before : (ℕ → ℕ) → (ℕ → ℕ) → ℕ → ℕ → ℕ
sum_before bytes owner this zero = 0
sum_before bytes owner this (suc end) = sum_before bytes owner this end + (if nat_lt (owner end) this then bytes end else 0)

-- for the lines that a table owns, each once
abbrev pub table_bytes : ℕ → List PlainTop → (ℕ → ℕ) → ℕ → ℕ
table_bytes size tops owner table = owned_sum (asked_bytes size tops) owner table (length tops)

-- for those that one of the tables before this one owns
abbrev pub tables_bytes : ℕ → List PlainTop → (ℕ → ℕ) → ℕ → ℕ
tables_bytes size tops owner table = sum_before (asked_bytes size tops) owner table (length tops)

-- ---- worked rows

-- `ab` at the offsets 4 to 6, with a child `xyz` at the offset 0; and `q` at the offsets 0 to 9
abbrev two_tops : List PlainTop
two_tops =
    record {
      kind = codes "a/b";
      priority = 50;
      line = record { own = line_from 4 3 1 (codes "ab") None; children = line (line_from 0 1 1 (codes "xyz") None) bare bare };
    }
    ∷ record { kind = codes "c/d"; priority = 40; line = record { own = line_from 0 10 1 (codes "q") None; children = bare } }
    ∷ []

-- of 20 bytes: these, two for each line, 3 windows and 6 + 3 bytes, 10 windows and 10 bytes
of_twenty : index_bytes 20 two_tops ≡ 20 + 2 * 2 + (3 + 6 + 3) + (10 + 10)
unfolding index_bytes forest_bytes window_bytes
of_twenty = refl

-- of 3 bytes the window of the child, and the three at which `q` may stand
of_three : index_bytes 3 two_tops ≡ 3 + 2 * 2 + 3 + (3 + 3)
unfolding index_bytes forest_bytes window_bytes
of_three = refl

-- of the lines with 5, 7 and 9 the first and the last are owned by 1, the other by 0
owned_by_one : owned_sum (slice_index (5 ∷ 7 ∷ 9 ∷ [])) (slice_index (1 ∷ 0 ∷ 1 ∷ [])) 1 3 ≡ 5 + 9
unfolding owned_sum
owned_by_one = refl

before_one : sum_before (slice_index (5 ∷ 7 ∷ 9 ∷ [])) (slice_index (1 ∷ 0 ∷ 1 ∷ [])) 1 3 ≡ 7
unfolding sum_before
before_one = refl
