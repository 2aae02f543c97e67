-- What C gets of a call of the reader: what is wrong with the cache's header, or what the call gave of the opened cache.
use Rattle.std.specs.Prelude.{◌≡◌, ℕ, List, Result, Ok, Err}
use Rattle.mime_base.specs.declared.meter.Meter.{Meter}
use Rattle.mime_c.specs.Report.{fault_report, status_report}
use Rattle.mime_c.specs.Status.{status_answered}
use Rattle.mime_c.specs.declared.report.Report.{Report}
use Rattle.mime_view.specs.Opening.{IsOpenFault, Opens}
use Rattle.mime_view.specs.Spending.{Looks}
use Rattle.mime_view.specs.declared.fault.CacheFault.{CacheFault}

-- of bytes that open as a cache the outcome is so; any others are refused for what is wrong with their header
pub data IsOfCache {X : Type 0} (c : List ℕ) (IsSo : Result X CacheFault → Type 0) (result : Result X CacheFault) : Type 0 where
  opened : Opens c → IsSo result → IsOfCache c IsSo result
  refused : (e : CacheFault) → IsOpenFault c e → result ≡ Err e → IsOfCache c IsSo result

-- an answer is given out; where there is none, what was there is left
abbrev pub IsReaderReport : {X : Type 0} → (X → Type 0) → Type 0 → Result X CacheFault → Meter → Report → Type 0
IsReaderReport Given Left (Ok answer) meter told = Given answer × (told ≡ status_report status_answered 0 meter)
IsReaderReport Given Left (Err e) meter told = Left × (told ≡ fault_report e 0 meter)

-- What C gets of a call that visits at most that many records and compares at most that many bytes.
pub record IsReaderCall {X : Type 0} (c : List ℕ) (IsSo : Result X CacheFault → Type 0) (nodes bytes : ℕ)
    (Given : X → Type 0) (Left : Type 0) (told : Report) : Type 0 where
  -- How the call ended.
  pub outcome : Result X CacheFault
  -- What it took.
  pub meter : Meter
  -- So it ends.
  pub promised : IsOfCache c IsSo outcome
  -- No more was visited, nor compared.
  pub cost : Looks nodes bytes (record { nodes = 0; bytes = 0 }) meter
  -- C is told just this.
  pub told_so : IsReaderReport Given Left outcome meter told
