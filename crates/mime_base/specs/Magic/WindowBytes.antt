-- How many bytes of a content the lines of magic compare at most.
use Rattle.std.specs.Prelude.{◌≡◌, refl, ℕ, ◌+◌, ◌-◌, ◌*◌, min, length, None, codes}
use Rattle.mime_base.specs.Magic.{Forest, PlainLine, PlainMatchlet, bare, line, line_from}

-- how many windows of a line's range lie wholly in a content of that length
abbrev pub windows_in : ℕ → PlainLine → ℕ
windows_in size own = min own.range (size + 1 - (own.start + length own.value))

-- their bytes, if each is compared with the whole value
unfoldable pub window_bytes : ℕ → PlainLine → ℕ
window_bytes size own = windows_in size own * length own.value

-- the same of lines and their children, each once
unfoldable pub forest_bytes : ℕ → Forest → ℕ
forest_bytes size bare = 0
forest_bytes size (line own children rest) =
    window_bytes size own + forest_bytes size children + forest_bytes size rest

-- and of a line with its children
abbrev pub line_bytes : ℕ → PlainMatchlet → ℕ
line_bytes size matchlet = window_bytes size matchlet.own + forest_bytes size matchlet.children

-- of `ab` at the offsets 4 to 6 two windows lie in a content of 7 bytes, all three in one of 20, and none in one of 5
two_of_three : window_bytes 7 (line_from 4 3 1 (codes "ab") None) ≡ 4
unfolding window_bytes
two_of_three = refl

all_three : window_bytes 20 (line_from 4 3 1 (codes "ab") None) ≡ 6
unfolding window_bytes
all_three = refl

none_of_three : window_bytes 5 (line_from 4 3 1 (codes "ab") None) ≡ 0
unfolding window_bytes
none_of_three = refl

-- with a child `xyz` at the offset 0, and after both the line `q` at the offsets 0 to 9
three_lines : forest_bytes 20 (line (line_from 4 3 1 (codes "ab") None)
    (line (line_from 0 1 1 (codes "xyz") None) bare bare)
    (line (line_from 0 10 1 (codes "q") None) bare bare)) ≡ 6 + 3 + 10
unfolding forest_bytes window_bytes
three_lines = refl
