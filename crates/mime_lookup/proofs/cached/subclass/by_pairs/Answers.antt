use Rattle.std.proofs.Common.{ap, length, arith, refl, ⊎_elim}
use Rattle.mime_base.specs.Cache.Bytes.{field}
use Rattle.mime_base.specs.Database.{pairs_of}
use Rattle.mime_lookup.specs.Ancestry.{NoneLeadsTo}
use Rattle.mime_lookup.specs.Searching.{marked_by}
use Rattle.mime_lookup.proofs.CostLemmas.ShortTexts.{text_short}
use Rattle.mime_lookup.proofs.AncestryLemmas.Above.{goes_on}
use Rattle.mime_lookup.proofs.AncestryLemmas.PairsLeft.{unmarked_most}
use Rattle.mime_lookup.proofs.AncestryLemmas.PlaceMarks.{marked-none}
use Rattle.mime_lookup.proofs.cached.subclass.by_pairs.Goals as goal

pub leads_to-requires : goal.leads_to-requires
leads_to-requires c = record {
  base =
      ⊎_elim
      (λ same. omega (arith, ap length same, c.requires.base))
      (λ text. text_short c.args.pairs.now text.0 c.unalias-base.result.now text.1)
      c.unalias-base.ensures.given.text;
}

pub returns-in-Found-clause-answer : goal.returns-in-Found-clause-answer
returns-in-Found-clause-answer c = λ b spells.
    let climbed = rw c.in-Found.is at (c.climb.ensures.climbed (pairs_of b) (b, rw c.requires.same spells, refl)) in
    rw (
      c.unalias.ensures.answer spells.offsets b.aliases (rw c.requires.same spells.header) (rw c.requires.same spells.aliases),
      c.unalias-base.ensures.answer spells.offsets b.aliases (rw c.requires.same spells.header) (rw c.requires.same spells.aliases),
    ) at climbed

pub returns-in-Open-clause-answer : goal.returns-in-Open-clause-answer
returns-in-Open-clause-answer c = λ b spells.
    let none : NoneLeadsTo (marked_by c.args.indexed.now c.new-in-Open.result) (pairs_of b) c.unalias-base.result.now =
    rw c.new-in-Open.ensures (λ kind is is_a. cc (marked-none c.args.indexed.now (field c.args.indexed.now 0 2) kind, is)) in
    let climbed = rw c.in-Open.is at (c.climb.ensures.climbed (pairs_of b) (b, rw c.requires.same spells, refl)) in
    rw (
      c.unalias.ensures.answer spells.offsets b.aliases (rw c.requires.same spells.header) (rw c.requires.same spells.aliases),
      c.unalias-base.ensures.answer spells.offsets b.aliases (rw c.requires.same spells.header) (rw c.requires.same spells.aliases),
    ) at (goes_on c.leads_to.result (pairs_of b) c.unalias.result.now c.in-Open.here.now c.unalias-base.result.now climbed
    ((c.leads_to.ensures.answer b spells).answer none))

pub returns-in-Open-clause-need : goal.returns-in-Open-clause-need
returns-in-Open-clause-need c = λ b spells enough.
    (c.leads_to.ensures.takes b spells).need
    (omega (arith, unmarked_most b.parents (marked_by c.args.indexed.now c.new-in-Open.result), enough))
