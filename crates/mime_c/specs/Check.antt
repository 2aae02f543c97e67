-- What is said of a cache's header.
use Rattle.std.specs.Prelude.{◌≡◌, ◌⊎◌, List, ℕ}
use Rattle.mime_c.specs.Report.{fault_report, meter_of, status_report}
use Rattle.mime_c.specs.Status.{status_answered}
use Rattle.mime_c.specs.declared.report.Report.{Report}
use Rattle.mime_view.specs.Opening.{IsOpenFault, Opens}
use Rattle.mime_view.specs.declared.fault.CacheFault.{CacheFault}

-- it opens, or it has this fault
abbrev pub IsOpenCheck : List ℕ → Report → Type 0
IsOpenCheck c told = (Opens c × (told ≡ status_report status_answered 0 (meter_of told)))
    ⊎ ((e : CacheFault) × IsOpenFault c e × (told ≡ fault_report e 0 (meter_of told)))
