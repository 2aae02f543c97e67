-- What is stored at each path of a drawer.
use Rattle.std.specs.Prelude.{◌++◌, ℕ, List, [], Option, Some, None, Vec, drop, if◌then◌else◌}
use Rattle.std.specs.Str.{bytes_eq}
use Rattle.std.specs.declared.alloc.Global.{Global}
use Rattle.mime_lookup.specs.Content.{Health, sound}
use Rattle.mime_tool.specs.Files.{Stored, Writing, bytes, fails, nothing, succeeds}
use Rattle.mime_fakes.specs.Shelf.{health_of, left_of}
use Rattle.mime_fakes.specs.declared.drawer.Sheet.{Sheet}
use Rattle.mime_fakes.specs.declared.drawer.Sheet.TheVariants.{Laid, Shelved}

-- what is stored at each path where this came to a path by way of it with an ending, over what a shelf has
abbrev pub stored_in : List ℕ → List ℕ → (List ℕ → Stored) → Option (Vec ℕ Global) → List ℕ → Stored
stored_in path ending shelf None other = shelf other
stored_in path ending shelf (Some laid) other =
    if bytes_eq other path then bytes laid.items else (if bytes_eq other (path ++ ending) then nothing else shelf other)

-- one file can be replaced, and by way of one ending
abbrev pub writes_of : List ℕ → List ℕ → List ℕ → List ℕ → Writing
writes_of path ending of_path by_ending =
    if bytes_eq of_path path then (if bytes_eq by_ending ending then succeeds else fails) else fails

-- the bytes that an opened file still gives
abbrev pub left_in : Sheet → List ℕ
left_in (Shelved page) = left_of page
left_in (Laid cursor) = drop cursor.pos cursor.inner.items

-- whether the reads of an opened file all fail
abbrev pub health_in : Sheet → Health
health_in (Shelved page) = health_of page
health_in (Laid cursor) = sound
