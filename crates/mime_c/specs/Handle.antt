-- What C gets of a call by a handle.
use Rattle.std.specs.Prelude.{◌≡◌, ℕ, List, Option, Some, None}
use denote.RawPtr.{Ptr}
use Rattle.mime_c.specs.Opened.{Opened}
use Rattle.mime_c.specs.Report.{IsStatusAlone}
use Rattle.mime_c.specs.Status.{status_not_open}
use Rattle.mime_c.specs.declared.database.kept.Kept.{Kept}
use Rattle.mime_c.specs.declared.report.Report.{Report}

-- what the call gives over the bytes that are open; where none are, that alone is said, and what was there stays
abbrev pub IsByHandle : Option Opened → (List ℕ → Report → Type 0) → Type 0 → Report → Type 0
IsByHandle None Asked Left told = Left × IsStatusAlone status_not_open told
IsByHandle (Some opened) Asked Left told = Asked opened.cache told

-- what was open is open, at the same address, and closing gives back the same memory
abbrev pub StaysOpen : Ptr → Option Opened → Kept → Type 0
StaysOpen address opened kept = (kept.address ≡ address) × (kept.opened ≡ opened)
