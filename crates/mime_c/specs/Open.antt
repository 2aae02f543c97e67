-- What C gets of opening a cache.
use Rattle.std.specs.Prelude.{◌≡◌, ◌⊎◌, ℕ, List, Option, None, Some}
use Rattle.mime_base.specs.declared.meter.Meter.{Meter}
use Rattle.mime_c.specs.Opened.{Opened, of_caller}
use Rattle.mime_c.specs.Report.{fault_report, status_report}
use Rattle.mime_c.specs.Status.{status_answered}
use Rattle.mime_c.specs.declared.report.Report.{Report}
use Rattle.mime_view.specs.Opening.{IsOpenFault, Opens}
use Rattle.mime_view.specs.declared.fault.CacheFault.{CacheFault}
use Rattle.mime_view.specs.declared.fault.CacheFault.TheVariants.{OutOfMemory}

-- what is wrong with the header, or memory was refused for a cache that opens
abbrev pub IsUnopened : List ℕ → CacheFault → Type 0
IsUnopened c e = IsOpenFault c e ⊎ (Opens c × (e ≡ OutOfMemory))

-- What is open then, and what C is told.
pub data IsOpened (c : List ℕ) (kept : Option Opened) (told : Report) : Type 0 where
  -- the cache is open, its memory stays the caller's, and the status says so
  open_now : (meter : Meter) → Opens c → kept ≡ Some (of_caller c) → told ≡ status_report status_answered 0 meter → IsOpened c kept told
  -- nothing is, and the status says why
  refused : (e : CacheFault) (meter : Meter) → IsUnopened c e → kept ≡ None → told ≡ fault_report e 0 meter → IsOpened c kept told
