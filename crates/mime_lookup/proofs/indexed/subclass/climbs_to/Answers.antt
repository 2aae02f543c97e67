use Rattle.std.proofs.Common.{refl}
use Rattle.mime_lookup.specs.Places.{placed}
use Rattle.mime_lookup.proofs.AncestryLemmas.Above.{goes_on}
use Rattle.mime_lookup.proofs.indexed.subclass.climbs_to.Goals as goal

pub returns-in-Open-clause-answer : goal.returns-in-Open-clause-answer
returns-in-Open-clause-answer c =
    let climbed = rw c.in-Open.is at (c.climb.ensures.climbed (placed c.args.both.now) refl) in
    goes_on c.leads_to.result (placed c.args.both.now) c.args.kind.now c.in-Open.here.now c.args.base.now climbed c.leads_to.ensures.answer
