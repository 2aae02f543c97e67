use Rattle.std.proofs.Common.{refl}
use Rattle.mime_base.specs.Database.{pairs_of, plain_database}
use Rattle.mime_lookup.proofs.AncestryLemmas.Above.{goes_on}
use Rattle.mime_lookup.proofs.lists.subclass.climbs_to.Goals as goal

pub returns-in-Open-clause-answer : goal.returns-in-Open-clause-answer
returns-in-Open-clause-answer c =
    let pairs = pairs_of (plain_database c.args.database.now) in
    let climbed = rw c.in-Open.is at (c.climb.ensures.climbed pairs refl) in
    goes_on c.search.result pairs c.args.kind.now c.in-Open.here.now c.args.base.now climbed c.search.ensures.answer
