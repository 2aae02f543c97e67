-- Which parents a type has by a cache of any bytes, and what C gets of them.
use Rattle.std.specs.Prelude.{◌≡◌, ℕ, ◌+◌, ◌*◌, ◌/◌, List, [], length, drop, map, take, Option, None, Some, Result, IfErr, IfOk, IfSome}
use Rattle.mime_base.specs.Cache.Bytes.{Stands, field}
use Rattle.mime_base.specs.Database.Subclass.{parents}
use Rattle.mime_base.specs.Format.Header.{HeaderAt, Offsets}
use Rattle.mime_base.specs.Format.Parents.{ParentsAt}
use Rattle.mime_base.specs.declared.meter.Meter.{Meter}
use Rattle.mime_c.specs.Reader.{IsReaderCall, IsReaderReport}
use Rattle.mime_c.specs.declared.look_up.Text.{Text}
use Rattle.mime_c.specs.declared.report.Report.{Report}
use Rattle.mime_view.specs.Parents.{IsParentsFault, IsRead}
use Rattle.mime_view.specs.declared.fault.CacheFault.{CacheFault}
use Rattle.mime_view.specs.declared.fault.CacheFault.TheVariants.{OutOfMemory}
use Rattle.mime_view.specs.declared.parents.Parents.{Parents}

-- the types that were found, none where there is no entry
abbrev pub types_of : Option Parents → List (List ℕ)
types_of None = []
types_of (Some found) = found.types

-- All that is promised of a type's parents over a cache that opens.
pub record IsParents (c kind : List ℕ) (result : Result (Option Parents) CacheFault) : Type 0 where
  -- Where the parent list stands, they are the type's parents, in the cache's order.
  pub answer : (offsets : Offsets) (pairs : List (List ℕ × List ℕ)) → HeaderAt (Stands c) offsets →
      ParentsAt (Stands c) offsets.parents pairs → IfOk result (λ found. types_of found ≡ parents pairs kind)
  -- Then only memory is refused.
  pub need : (offsets : Offsets) (pairs : List (List ℕ × List ℕ)) → HeaderAt (Stands c) offsets →
      ParentsAt (Stands c) offsets.parents pairs → IfErr result (λ e. e ≡ OutOfMemory)
  -- On any bytes an entry that is found is the type's, with the texts that stand there.
  pub read : IfOk result (λ found. IfSome found (IsRead c (field c 0 2) [] kind))
  -- A fault is one of the list, of the entry or of a text, or memory was refused.
  pub fault : IfErr result (λ e. (left : ℕ) × IsParentsFault c (field c 0 2) [] kind (length c / 4) left e)

-- Items are written into an array from its front on, as far as there is room.
pub record AreWritten {X Y : Type 0} (view : X → Y) (items : List Y) (before after : List X) : Type 0 where
  -- The array has the items in their order.
  pub written : map view (take (length items) after) ≡ take (length before) items
  -- The rest of it is as it was.
  pub rest : drop (length items) after ≡ drop (length items) before

-- the bytes of a text
abbrev pub bytes_of_text : Text → List ℕ
bytes_of_text text = text.bytes.now

-- an array of texts, and how many there are to be written
pub record Slots : Type 0 where
  pub texts : List Text
  pub count : ℕ

-- the array has the parents as far as there is room, and the count is of all
abbrev pub AreGivenParents : Slots → Slots → Option Parents → Type 0
AreGivenParents before after found =
    AreWritten bytes_of_text (types_of found) before.texts after.texts × (after.count ≡ length (types_of found))

-- so they go out; where there are none to be given, both stay
abbrev pub IsParentsReport : Slots → Slots → Result (Option Parents) CacheFault → Meter → Report → Type 0
IsParentsReport before after found meter told = IsReaderReport (AreGivenParents before after) (after ≡ before) found meter told

-- the array has the parents as far as there is room, and the count is of all; where there are none to be given, both stay
abbrev pub IsAskedParents : List ℕ → List ℕ → Slots → Slots → Report → Type 0
IsAskedParents c kind before after told =
    IsReaderCall c (IsParents c kind) (30 + length c / 4) (256 * (27 + length c / 4))
    (AreGivenParents before after) (after ≡ before) told
