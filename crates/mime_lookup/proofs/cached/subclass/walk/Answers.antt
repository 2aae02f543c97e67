use Rattle.std.proofs.Common.{ℕ, ap, length, arith, ⊎_elim}
use Rattle.mime_base.specs.Cache.Bytes.{field}
use Rattle.mime_base.specs.Database.{pairs_of}
use Rattle.mime_view.specs.declared.budget.Budget.{Budget}
use Rattle.mime_lookup.specs.Ancestry.{NoneLeadsTo}
use Rattle.mime_lookup.specs.Searching.{marked_by}
use Rattle.mime_lookup.proofs.CostLemmas.ShortTexts.{text_short}
use Rattle.mime_lookup.proofs.AncestryLemmas.PairsLeft.{unmarked_most}
use Rattle.mime_lookup.proofs.AncestryLemmas.PlaceMarks.{marked-none}
use Rattle.mime_lookup.proofs.cached.subclass.walk.Goals as goal

pub returns-in_err-kind-clause-need : goal.returns-in_err-kind-clause-need
returns-in_err-kind-clause-need c = λ b spells enough.
    absurd (c.in_err-kind.ensures.answer spells.offsets b.aliases spells.header spells.aliases)

pub returns-in_err-base-clause-need : goal.returns-in_err-base-clause-need
returns-in_err-base-clause-need c = λ b spells enough.
    absurd (c.in_err-base.ensures.answer spells.offsets b.aliases spells.header spells.aliases)

pub leads_to-requires : goal.leads_to-requires
leads_to-requires c = record {
  base =
      ⊎_elim
      (λ same. omega (arith, ap length same, c.requires.base))
      (λ text. text_short c.args.indexed.now text.0 c.in_ok-base.base.now text.1)
      c.in_ok-base.ensures.given.text;
}

pub returns-clause-answer : goal.returns-clause-answer
returns-clause-answer c = λ b spells.
    let none : NoneLeadsTo (marked_by c.args.indexed.now c.new-marks.result) (pairs_of b) c.in_ok-base.base.now =
    rw c.new-marks.ensures (λ kind is is_a. cc (marked-none c.args.indexed.now (field c.args.indexed.now 0 2) kind, is)) in
    rw (
      c.in_ok-kind.ensures.answer spells.offsets b.aliases spells.header spells.aliases,
      c.in_ok-base.ensures.answer spells.offsets b.aliases spells.header spells.aliases,
    ) at ((c.leads_to.ensures.answer b spells).answer none)

pub returns-clause-need : goal.returns-clause-need
returns-clause-need c = λ b spells enough.
    let most = unmarked_most b.parents (marked_by c.args.indexed.now c.new-marks.result) in
    let records : Budget → ℕ = λ budget. budget.records in
    (c.leads_to.ensures.takes b spells).need
    (omega (arith, most, enough, ap records c.unalias.ensures.budget, ap records c.unalias-2.ensures.budget))
