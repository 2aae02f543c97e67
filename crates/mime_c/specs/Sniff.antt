-- What a content is sniffed as, and what C gets of it.
use Rattle.std.specs.Prelude.{◌≡◌, ℕ, List, [], ◌∷◌, Option, None, Some, Result, Ok, Err}
use Rattle.mime_base.specs.declared.magic.host.Host.TheVariants.{Little}
use Rattle.mime_c.specs.Report.{IsStopReport, status_report}
use Rattle.mime_c.specs.Status.{status_answered}
use Rattle.mime_c.specs.declared.report.Report.{Report}
use Rattle.mime_c.specs.declared.sniff.Sniffed.{Sniffed}
use Rattle.mime_lookup.specs.ContentAlone.{IsSniffing}
use Rattle.mime_lookup.specs.declared.cached.content_alone.SniffedContent.{SniffedContent}
use Rattle.mime_lookup.specs.declared.stopped.Stopped.{Stopped}

-- the priority of the section that holds, 0 where none does
abbrev pub priority_or_0 : Option ℕ → ℕ
priority_or_0 None = 0
priority_or_0 (Some priority) = priority

-- 1 where a section holds, else 0
abbrev pub one_if_some : Option ℕ → ℕ
one_if_some None = 0
one_if_some (Some priority) = 1

-- What C gets of an answer.
pub record IsGivenSniff (found : SniffedContent) (after : Sniffed) : Type 0 where
  -- The type.
  pub kind : after.kind.now ≡ found.kind.now
  -- The priority of the section, if one holds.
  pub priority : after.priority ≡ priority_or_0 found.priority
  -- Whether one does.
  pub holds : after.holds ≡ one_if_some found.priority
  -- The spare fields are zero.
  pub spare : after.spare ≡ 0 ∷ 0 ∷ 0 ∷ []

-- an answer goes out; where the content can't be sniffed, what was there stays
abbrev pub IsSniffReport : Result SniffedContent Stopped → Sniffed → Sniffed → Report → Type 0
IsSniffReport (Ok found) before after told = IsGivenSniff found after × (told ≡ status_report status_answered found.read found.meter)
IsSniffReport (Err stopped) before after told = (after ≡ before) × IsStopReport stopped.cause stopped.read stopped.meter told

-- What C gets of a content.
pub record IsAskedSniff (c content : List ℕ) (before after : Sniffed) (told : Report) : Type 0 where
  -- How the call below ended.
  pub outcome : Result SniffedContent Stopped
  -- So it ends over any bytes.
  pub promised : IsSniffing c content Little outcome
  -- C is told just this.
  pub told_so : IsSniffReport outcome before after told
