-- What C gets of opening data directories.
use Rattle.std.specs.Prelude.{◌≡◌, ◌⊎◌, ℕ, List, Option, None, Some}
use Rattle.mime_c.specs.Merge.{IsCacheOfDirs, IsMergeFault, merge_fault_report, merge_status}
use Rattle.mime_c.specs.Opened.{Opened, of_made}
use Rattle.mime_c.specs.Status.{status_answered, status_out_of_memory}
use Rattle.mime_c.specs.declared.look_up.Text.{Text}
use Rattle.mime_c.specs.declared.merge.MergeFault.{MergeFault}
use Rattle.mime_c.specs.declared.merge.MergeReport.{MergeReport}
use Rattle.mime_text.specs.declared.dir_texts.DirTexts.{DirTexts}
use Rattle.mime_view.specs.Opening.{Opens}

-- What is open then, and what C is told.
pub data IsOpenedDirs (dirs : List DirTexts) (kept : Option Opened) (told : MergeReport) : Type 0 where
  -- a cache of what the directories say is open, closing gives back its memory, and the status says so
  open_now : (cache : List ℕ) → IsCacheOfDirs dirs cache → Opens cache → kept ≡ Some (of_made cache)
      → told ≡ merge_status status_answered → IsOpenedDirs dirs kept told
  -- nothing is, and the report says why
  refused : (e : MergeFault) → IsMergeFault dirs e → kept ≡ None → told ≡ merge_fault_report e → IsOpenedDirs dirs kept told

-- a cache that was made is open, or memory was refused
abbrev pub IsOpenedMade : List ℕ → Option Opened → MergeReport → Type 0
IsOpenedMade cache kept told =
    (Opens cache × (kept ≡ Some (of_made cache)) × (told ≡ merge_status status_answered))
    ⊎ ((kept ≡ None) × (told ≡ merge_status status_out_of_memory))

-- memory that C has to free: of what is open none, else that of a cache that was made, if one was
abbrev pub IsLeftOver : List DirTexts → Option Opened → Text → Text → Type 0
IsLeftOver dirs (Some _) before after = after ≡ before
IsLeftOver dirs None before after = (after ≡ before) ⊎ IsCacheOfDirs dirs after.bytes.now
