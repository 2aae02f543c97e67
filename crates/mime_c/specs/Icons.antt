-- What a look at the icons of a type promises over a cache of any bytes, and what C gets of it.
use Rattle.std.specs.Prelude.{◌≡◌, ◌⊎◌, ◌++◌, ℕ, ◌<◌, ◌≤◌, true, false, List, length, drop, Result, Ok, Err}
use Rattle.std.specs.Prelude.{IfErr, IfOk, MatchResult, OnOk}
use Rattle.mime_base.specs.Database.{PlainDatabase}
use Rattle.mime_base.specs.Names.{is_type_name}
use Rattle.mime_c.specs.Report.{IsStatusAlone, IsStopReport, status_report}
use Rattle.mime_c.specs.Status.{status_answered, status_not_a_type, status_out_of_memory, status_short_buffer}
use Rattle.mime_c.specs.declared.icons.IconLengths.{IconLengths}
use Rattle.mime_c.specs.declared.report.Report.{Report}
use Rattle.mime_lookup.specs.Asking.{StopsAsking}
use Rattle.mime_lookup.specs.Bounds.{KeepsBounds}
use Rattle.mime_lookup.specs.Icons.{HasIconLists, icons_of, plain_icons_of}
use Rattle.mime_lookup.specs.Spelling.{SpellsIcons}
use Rattle.mime_lookup.specs.StepFaults.{IsIconFault}
use Rattle.mime_lookup.specs.declared.cached.icons.Icons.{Icons}
use Rattle.mime_lookup.specs.declared.stopped.Stopped.{Stopped}

-- all that is promised of the icons of a type
pub record IsIcons (c kind : List ℕ) (result : Result Icons Stopped) : Type 0 where
  pub answer : (b : PlainDatabase) → SpellsIcons c b → IfOk result (λ icons. plain_icons_of icons ≡ icons_of b kind)
  pub lists : OnOk result (HasIconLists c)
  pub stops : StopsAsking (λ stopped. stopped.cause) c (IsIconFault c) (SpellsIcons c) result
  pub read : IfErr result (λ stopped. stopped.read ≡ 0)
  pub bounds : MatchResult result (λ icons. KeepsBounds 0 c 0 icons.meter) (λ stopped. KeepsBounds 0 c 0 stopped.meter)

-- two buffers and the lengths of what stands in them
pub record Buffers : Type 0 where
  pub icon : List ℕ
  pub generic : List ℕ
  pub lengths : IconLengths

-- both names stand at the fronts of the buffers, and the rest of each is as it was
abbrev pub with_icons : Icons → Buffers → Buffers
with_icons icons before = record {
  icon = icons.icon.items ++ drop (length icons.icon.items) before.icon;
  generic = icons.generic.items ++ drop (length icons.generic.items) before.generic;
  lengths = record { icon = length icons.icon.items; generic = length icons.generic.items };
}

-- a buffer has no room for its name
abbrev pub AreShort : Icons → Buffers → Type 0
AreShort icons before =
    (length before.icon < length icons.icon.items) ⊎ (length before.generic < length icons.generic.items)

-- both buffers have room for their names
abbrev pub AreLong : Icons → Buffers → Type 0
AreLong icons before =
    (length icons.icon.items ≤ length before.icon) × (length icons.generic.items ≤ length before.generic)

-- the names go out where there is room for both; else all stays, and so it does where there are none
abbrev pub IsIconsReport : Result Icons Stopped → Buffers → Buffers → Report → Type 0
IsIconsReport (Ok icons) before after told =
    (AreLong icons before × (after ≡ with_icons icons before) × (told ≡ status_report status_answered 0 icons.meter))
    ⊎ (AreShort icons before × (after ≡ before) × (told ≡ status_report status_short_buffer 0 icons.meter))
IsIconsReport (Err stopped) before after told = (after ≡ before) × IsStopReport stopped.cause stopped.read stopped.meter told

-- what C gets of a type name
pub record IsFoundIcons (c kind : List ℕ) (before after : Buffers) (told : Report) : Type 0 where
  pub outcome : Result Icons Stopped
  pub promised : IsIcons c kind outcome
  pub told_so : IsIconsReport outcome before after told

-- what C gets: of a type name its icons or why there are none; else that it is none; or memory was refused
pub data IsAskedIcons (c kind : List ℕ) (before after : Buffers) (told : Report) : Type 0 where
  no_type : is_type_name kind ≡ false → after ≡ before → IsStatusAlone status_not_a_type told → IsAskedIcons c kind before after told
  no_memory : is_type_name kind ≡ true → after ≡ before → IsStatusAlone status_out_of_memory told → IsAskedIcons c kind before after told
  found : is_type_name kind ≡ true → IsFoundIcons c kind before after told → IsAskedIcons c kind before after told
