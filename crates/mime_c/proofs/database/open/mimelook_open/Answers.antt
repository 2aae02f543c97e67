use Rattle.std.proofs.Common.{◌∙◌, Option, Some, ap}
use Rattle.mime_c.specs.Open.{open_now, refused}
use Rattle.mime_c.specs.Opened.{Opened}
use Rattle.mime_c.proofs.database.open.mimelook_open.Goals as goal

pub returns-in-Ok-clause-opened : goal.returns-in-Ok-clause-opened
returns-in-Ok-clause-opened c =
    let is = c.in-Ok.ensures.opened in
    let some : Opened → Option Opened = Some in
    open_now c.open.new.meter is.1 (c.of-address.ensures.2 ∙ ap some is.0) c.answered.ensures

pub returns-in-Err-clause-opened : goal.returns-in-Err-clause-opened
returns-in-Err-clause-opened c =
    refused c.in-Err.fault c.open.new.meter c.in-Err.ensures.opened c.nothing.ensures.1 c.fault_report.ensures
