use Rattle.std.proofs.Common.{ap, arith}
use Rattle.mime_base.specs.declared.meter.Meter.{Meter}
use Rattle.mime_lookup.proofs.checking.look_up_over.Goals as goal

pub returns-in-Ok-clause-bytes : goal.returns-in-Ok-clause-bytes
returns-in-Ok-clause-bytes g c =
    let bytes = c.kind_of.ensures.bytes in
    omega (arith, bytes, ap (λ (meter : Meter). meter.bytes) c.new-meter.ensures)

pub returns-in-Err-clause-bytes : goal.returns-in-Err-clause-bytes
returns-in-Err-clause-bytes g c =
    let bytes = c.kind_of.ensures.bytes in
    omega (arith, bytes, ap (λ (meter : Meter). meter.bytes) c.new-meter.ensures)
