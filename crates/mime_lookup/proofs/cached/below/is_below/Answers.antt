use Rattle.std.proofs.Common.{arith}
use Rattle.mime_base.specs.Cache.Bytes.{field}
use Rattle.mime_base.specs.Database.{pairs_of}
use Rattle.mime_lookup.specs.Ancestry.{NoneLeadsTo}
use Rattle.mime_lookup.specs.Searching.{marked_by}
use Rattle.mime_lookup.proofs.AncestryLemmas.PairsLeft.{unmarked_most}
use Rattle.mime_lookup.proofs.AncestryLemmas.PlaceMarks.{marked-none}
use Rattle.mime_lookup.proofs.cached.below.is_below.Goals as goal

pub returns-clause-answer : goal.returns-clause-answer
returns-clause-answer c = λ b spells.
    let none : NoneLeadsTo (marked_by c.args.indexed.now c.new-marks.result) (pairs_of b) c.args.base.now =
    rw c.new-marks.ensures (λ kind is is_a. cc (marked-none c.args.indexed.now (field c.args.indexed.now 0 2) kind, is)) in
    (c.climbs_to.ensures.answer b spells).answer none

pub returns-clause-need : goal.returns-clause-need
returns-clause-need c = λ b spells packed.
    let most = unmarked_most b.parents (marked_by c.args.indexed.now c.new-marks.result) in
    (c.climbs_to.ensures.takes b spells).need (omega (arith, most, packed.records, c.budget.ensures.records))
