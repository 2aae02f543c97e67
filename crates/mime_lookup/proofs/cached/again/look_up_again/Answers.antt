use Rattle.std.proofs.Common.{arith}
use Rattle.mime_lookup.proofs.LookUpLemmas.Outcomes.{stops_cause}
use Rattle.mime_lookup.proofs.cached.again.look_up_again.Goals as goal

pub returns-in-Err-clause-stops : goal.returns-in-Err-clause-stops
returns-in-Err-clause-stops g c =
    stops_cause _ _ c.in-Err.cause (omega arith) c.in-Err.ensures.faults c.in-Err.ensures.stops
