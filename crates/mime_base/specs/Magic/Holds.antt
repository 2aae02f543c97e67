-- When a line of magic holds for a content, and which section is the first that does.
use Rattle.std.specs.Prelude.{ℕ, ◌+◌, zero, suc, Bool, true, false, ◌&&◌, ◌||◌, nat_le, if◌then◌else◌, List}
use Rattle.std.specs.Prelude.{[], ◌∷◌, length, take, drop, Option, Some, None}
use Rattle.mime_base.specs.Magic.{Forest, PlainLine, PlainMatchlet, PlainSection, bare, line}
use Rattle.mime_base.specs.Magic.Masking.{window_equals}
use Rattle.mime_base.specs.declared.magic.host.Host.{Host}

-- the bytes of a mask; without one all bits count, as past a mask's end
abbrev pub bytes_of_mask : Option (List ℕ) → List ℕ
bytes_of_mask None = []
bytes_of_mask (Some mask) = mask

-- whether the window at an offset lies wholly in the content and equals the value of a line
abbrev pub equals_at : PlainLine → Host → List ℕ → ℕ → Bool
equals_at own host content at =
    nat_le (at + length own.value) (length content)
    && window_equals own.value (bytes_of_mask own.mask) own.word host (take (length own.value) (drop at content))

-- whether it does at one of that many offsets from this one on
unfoldable pub equals_from : PlainLine → Host → List ℕ → ℕ → ℕ → Bool
equals_from own host content at zero = false
equals_from own host content at (suc range) =
    equals_at own host content at || equals_from own host content (suc at) range

-- whether there is no line
abbrev pub is_bare : Forest → Bool
is_bare bare = true
is_bare (line own children rest) = false

-- whether some first line of a forest holds: it equals its value at some offset of its range, and it has no
-- children or some child holds
unfoldable pub some_holds : Forest → List ℕ → Host → Bool
some_holds bare content host = false
some_holds (line own children rest) content host =
    (equals_from own host content own.start own.range && (is_bare children || some_holds children content host))
    || some_holds rest content host

-- whether a line with its children holds
abbrev pub line_holds : PlainMatchlet → List ℕ → Host → Bool
line_holds matchlet content host = some_holds (line matchlet.own matchlet.children bare) content host

-- the type and the priority of the first section with a line of indent 0 that holds
unfoldable pub first_magic : List PlainSection → List ℕ → Host → Option (List ℕ × ℕ)
first_magic [] content host = None
first_magic (section ∷ sections) content host =
    if some_holds section.lines content host then Some (section.kind, section.priority)
    else first_magic sections content host
