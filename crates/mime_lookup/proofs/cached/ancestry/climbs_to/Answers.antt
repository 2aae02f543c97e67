use Rattle.std.proofs.Common.{refl}
use Rattle.mime_base.specs.Database.{pairs_of}
use Rattle.mime_lookup.proofs.AncestryLemmas.Above.{goes_on}
use Rattle.mime_lookup.proofs.cached.ancestry.climbs_to.Goals as goal

pub returns-in-Found-clause-answer : goal.returns-in-Found-clause-answer
returns-in-Found-clause-answer c = λ b spells. record {
  answer = λ none. rw c.in-Found.is at (c.climb.ensures.climbed (pairs_of b) (b, rw c.in-Some.ensures spells, refl));
  marked = λ none is. none;
}

pub returns-in-Open-clause-answer : goal.returns-in-Open-clause-answer
returns-in-Open-clause-answer c = λ b spells.
    let climbed = rw c.in-Open.is at (c.climb.ensures.climbed (pairs_of b) (b, rw c.in-Some.ensures spells, refl)) in
    let searched = c.leads_to.ensures.answer b spells in
    record {
      answer = λ none.
          goes_on c.leads_to.result (pairs_of b) c.args.kind.now c.in-Open.here.now c.args.base.now climbed (searched.answer none);
      marked = searched.marked;
    }
