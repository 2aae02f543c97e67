-- How much of a content the lines of magic can look at.
use Rattle.std.specs.Prelude.{◌≡◌, refl, ℕ, ◌+◌, max, List, [], ◌∷◌, length, None, codes}
use Rattle.mime_base.specs.Database.{PlainDatabase}
use Rattle.mime_base.specs.Magic.{Forest, PlainLine, PlainSection, bare, line, line_from}

-- the extent of a line without its children: start, range and length of the value
abbrev pub line_extent : PlainLine → ℕ
line_extent own = own.start + own.range + length own.value

-- the greatest extent of lines and their children; 0 without any
abbrev pub forest_extent : Forest → ℕ
forest_extent bare = 0
forest_extent (line own children rest) =
    max (line_extent own) (max (forest_extent children) (forest_extent rest))

-- the greatest extent of the lines of sections
abbrev pub sections_extent : List PlainSection → ℕ
sections_extent [] = 0
sections_extent (section ∷ sections) = max (forest_extent section.lines) (sections_extent sections)

-- the greatest extent of all lines of a database
abbrev pub extent : PlainDatabase → ℕ
extent b = sections_extent b.sections

-- a value of 2 bytes from the offsets 4 to 6 reaches the offset 9, with a shorter child
reaches_nine : forest_extent (line (line_from 4 3 1 (codes "ab") None)
    (line (line_from 0 1 1 (codes "x") None) bare bare) bare) ≡ 9
reaches_nine = refl
