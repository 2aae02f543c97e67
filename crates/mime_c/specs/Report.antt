-- What C gets of a call: a status, a fault's place, and what the call took.
use Rattle.std.specs.Prelude.{◌≡◌, ℕ, List, [], ◌∷◌}
use Rattle.mime_base.specs.declared.meter.Meter.{Meter}
use Rattle.mime_c.specs.Status.{status_long_text, status_name_too_long, status_out_of_memory, status_out_of_range}
use Rattle.mime_c.specs.Status.{status_spent, status_too_deep, status_too_large, status_truncated, status_version}
use Rattle.mime_c.specs.declared.report.Report.{Report}
use Rattle.mime_lookup.specs.declared.stopped.Cause.{Cause}
use Rattle.mime_lookup.specs.declared.stopped.Cause.TheVariants as cause
use Rattle.mime_view.specs.declared.fault.CacheFault.{CacheFault}
use Rattle.mime_view.specs.declared.fault.CacheFault.TheVariants as fault

-- the spare fields
abbrev pub no_spare : List ℕ
no_spare = 0 ∷ 0 ∷ 0 ∷ []

-- a status, with what was read, visited and compared
abbrev pub status_report : ℕ → ℕ → Meter → Report
status_report status read meter =
    record { status = status; major = 0; minor = 0; at = 0; read = read; nodes = meter.nodes; bytes = meter.bytes; spare = no_spare }

-- a fault of the cache: its status, and its offset or the version
abbrev pub fault_report : CacheFault → ℕ → Meter → Report
fault_report fault.Truncated read meter = status_report status_truncated read meter
fault_report (fault.Version major minor) read meter = record (status_report status_version read meter) { major = major; minor = minor }
fault_report fault.TooLarge read meter = status_report status_too_large read meter
fault_report (fault.OutOfRange at) read meter = record (status_report status_out_of_range read meter) { at = at }
fault_report (fault.LongText at) read meter = record (status_report status_long_text read meter) { at = at }
fault_report fault.Spent read meter = status_report status_spent read meter
fault_report fault.TooDeep read meter = status_report status_too_deep read meter
fault_report fault.OutOfMemory read meter = status_report status_out_of_memory read meter

-- why a lookup stopped; bytes never fail to be read
abbrev pub IsStopReport : Cause → ℕ → Meter → Report → Type 0
IsStopReport cause.NameTooLong read meter told = told ≡ status_report status_name_too_long read meter
IsStopReport (cause.Cache e) read meter told = told ≡ fault_report e read meter
IsStopReport cause.OutOfMemory read meter told = told ≡ status_report status_out_of_memory read meter
IsStopReport cause.Read read meter told = ⊥

-- what a report says was visited and compared
abbrev pub meter_of : Report → Meter
meter_of told = record { nodes = told.nodes; bytes = told.bytes }

-- a status alone: nothing was looked at
abbrev pub IsStatusAlone : ℕ → Report → Type 0
IsStatusAlone status told = told ≡ status_report status 0 (record { nodes = 0; bytes = 0 })
