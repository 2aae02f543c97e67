-- What is stored at each path of a shelf.
use Rattle.std.specs.Prelude.{ℕ, List, [], ◌∷◌, Option, Some, None, if◌then◌else◌}
use Rattle.std.specs.Borrow.{Bor}
use Rattle.std.specs.Str.{bytes_eq}
use Rattle.mime_lookup.specs.Content.{Health, broken, sound}
use Rattle.mime_tool.specs.Files.{Stored, bytes, closed, dangling, folder, nothing, special, unreadable}
use Rattle.mime_fakes.specs.declared.shelf.Entry.{Entry}
use Rattle.mime_fakes.specs.declared.shelf.Entry.TheVariants.{Bytes, Closed, Dangling, Folder, Special, Unreadable}
use Rattle.mime_fakes.specs.declared.shelf.Page.{Page}
use Rattle.mime_fakes.specs.declared.shelf.Page.TheVariants as page

-- what a file in memory holds
abbrev pub stored : Option Entry → Stored
stored None = nothing
stored (Some (Bytes bs)) = bytes bs.now
stored (Some Folder) = folder
stored (Some (Special kind)) = special kind
stored (Some Dangling) = dangling
stored (Some Closed) = closed
stored (Some Unreadable) = unreadable

-- the bytes that an opened file still gives
abbrev pub left_of : Page → List ℕ
left_of (page.Bytes bs) = bs.now
left_of page.Unreadable = []

-- whether the reads of an opened file all fail
abbrev pub health_of : Page → Health
health_of (page.Bytes bs) = sound
health_of page.Unreadable = broken

-- the first entry of this path
abbrev pub entry_in : List (Bor (List ℕ) × Entry) → List ℕ → Option Entry
entry_in [] path = None
entry_in (named ∷ entries) path = if bytes_eq named.0.now path then Some named.1 else entry_in entries path

-- what is stored at a path, of files in memory
abbrev pub stored_at : List (Bor (List ℕ) × Entry) → List ℕ → Stored
stored_at entries path = stored (entry_in entries path)
