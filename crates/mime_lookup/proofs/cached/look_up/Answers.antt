use Rattle.std.proofs.Common.{Ok, Err, arith}
use Rattle.mime_lookup.proofs.LookUpLemmas.Outcomes.{headline, reads_answer, reads_cause, stops_cause}
use Rattle.mime_lookup.proofs.cached.look_up.Goals as goal

pub returns-in-Ok-clause-stops : goal.returns-in-Ok-clause-stops
returns-in-Ok-clause-stops g c = record {
  too_long = λ long. absurd (omega arith);
  refused = λ short e opens. absurd (c.in-Ok.ensures.faults.refused e opens);
  opened = c.in-Ok.ensures.faults.opened;
  fault = λ short. tt;
  spent = tt;
  need = λ b enough limit packed short. tt;
}

pub returns-in-Ok-clause-reads : goal.returns-in-Ok-clause-reads
returns-in-Ok-clause-reads g c = reads_answer _ c.in-Ok.ensures.reads

pub returns-in-Ok-clause-costs : goal.returns-in-Ok-clause-costs
returns-in-Ok-clause-costs g c =
    record { bounds = c.in-Ok.ensures.costs.bounds; counted = c.in-Ok.ensures.costs.counted; near = c.in-Ok.ensures.costs.near }

pub returns-in-Err-clause-stops : goal.returns-in-Err-clause-stops
returns-in-Err-clause-stops g c =
    stops_cause _ _ c.in-Err.cause (omega arith) c.in-Err.ensures.faults c.in-Err.ensures.stops

pub returns-in-Err-clause-reads : goal.returns-in-Err-clause-reads
returns-in-Err-clause-reads g c = reads_cause c.in-Err.ensures.reads

pub returns-in-Err-clause-costs : goal.returns-in-Err-clause-costs
returns-in-Err-clause-costs g c =
    record { bounds = c.in-Err.ensures.costs.bounds; counted = tt; near = λ b globs decide. tt }

pub returns-in-Ok-clause-headline : goal.returns-in-Ok-clause-headline
returns-in-Ok-clause-headline g c =
    headline c.args.host (Ok _) c.in-Ok.ensures.answers (returns-in-Ok-clause-stops g c) (returns-in-Ok-clause-reads g c)
    (returns-in-Ok-clause-costs g c)

pub returns-in-Err-clause-headline : goal.returns-in-Err-clause-headline
returns-in-Err-clause-headline g c =
    headline c.args.host (Err _) tt (returns-in-Err-clause-stops g c) (returns-in-Err-clause-reads g c)
    (returns-in-Err-clause-costs g c)
