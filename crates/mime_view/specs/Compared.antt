-- How many bytes a walk of magic counts for a content, of lines and sections that stand.
use Rattle.std.specs.Prelude.{◌≡◌, refl, ℕ, ◌+◌, max, if◌then◌else◌, List, [], ◌∷◌, length, None, codes}
use Rattle.mime_base.specs.Magic.{Forest, PlainLine, PlainSection, bare, line, line_from}
use Rattle.mime_base.specs.Magic.Holds.{equals_from, some_holds}
use Rattle.mime_base.specs.Magic.Masking.{equal_bytes, window_equals}
use Rattle.mime_base.specs.Magic.Ranges.{compared_from}
use Rattle.mime_base.specs.Meter.{raised}
use Rattle.mime_base.specs.declared.magic.host.Host.{Host}
use Rattle.mime_base.specs.declared.magic.host.Host.TheVariants.{Little}

-- a count of bytes after that many more: the sum stops at the greatest number, and never falls
abbrev pub counted_on : ℕ → ℕ → ℕ
counted_on old more = max old (raised old more)

-- of a line by itself: those of each window of its range, up to and including the first that equals its value
abbrev pub line_compared : PlainLine → List ℕ → Host → ℕ
line_compared own content host = compared_from own host content own.start own.range

-- of lines, up to and including the first that holds: those of each by itself, and of the children of one that equals its value
unfoldable pub lines_compared : Forest → List ℕ → Host → ℕ
lines_compared bare content host = 0
lines_compared (line own children rest) content host =
    line_compared own content host
    + (if equals_from own host content own.start own.range then lines_compared children content host else 0)
    + (if some_holds (line own children bare) content host then 0 else lines_compared rest content host)

-- of sections, up to and including the first that holds: those of their lines, and of that one the name of its type with its zero
unfoldable pub sections_compared : List PlainSection → List ℕ → Host → ℕ
sections_compared [] content host = 0
sections_compared (section ∷ sections) content host =
    lines_compared section.lines content host
    + (if some_holds section.lines content host then length section.kind + 1 else sections_compared sections content host)

-- a line of one byte that is wanted at the offset 0, with these children, and others after it
abbrev wants : ℕ → Forest → Forest → Forest
wants byte children rest = line (line_from 0 1 1 (byte ∷ []) None) children rest

-- `b`, then `a` with the children `b` and `c`, then `a`: the line that differs, the one that equals, its two children, and the last
all_lines : lines_compared (wants 98 bare (wants 97 (wants 98 bare (wants 99 bare bare)) (wants 97 bare bare))) (codes "a") Little ≡ 5
unfolding lines_compared equals_from some_holds compared_from equal_bytes window_equals
all_lines = refl

-- the same in two sections of the type `t/h`: the first holds, so the other isn't asked, and the type is 3 bytes and a zero
first_section : sections_compared
    (record { priority = 50; kind = codes "t/h"; lines = wants 98 bare (wants 97 bare (wants 97 bare bare)) }
    ∷ record { priority = 40; kind = codes "t/g"; lines = wants 97 bare bare } ∷ []) (codes "a") Little ≡ 6
unfolding sections_compared lines_compared equals_from some_holds compared_from equal_bytes window_equals
first_section = refl
