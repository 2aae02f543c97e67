use Rattle.std.proofs.Common.{◌+◌, ◌*◌, [], length, sym, true≢false, ◌∙◌, arith}
use Rattle.mime_base.specs.Cache.Bytes.{field}
use Rattle.mime_base.specs.Database.{pairs_of}
use Rattle.mime_view.proofs.CostLemmas.Costs.{spends_none}
use Rattle.mime_lookup.specs.Costs.{lookup_price}
use Rattle.mime_lookup.specs.Searching.{marked_by, search_cost}
use Rattle.mime_lookup.proofs.AncestryLemmas.PairsLeft.{unmarked_most}
use Rattle.mime_lookup.proofs.AncestryLemmas.PlaceMarks.{marked-none}
use Rattle.mime_lookup.proofs.AncestryLemmas.Queues.{candidate, passed_over}
use Rattle.mime_lookup.proofs.CostLemmas.Costs.{costs_then, costs_wider}
use Rattle.mime_lookup.proofs.cached.ancestry.first_of.Goals as goal

pub loop-kind-init : goal.loop-kind-init
loop-kind-init c =
    rw c.new-marks.ensures
    (record {
      settled = λ b spells kind is is_a. cc (marked-none c.args.indexed.now (field c.args.indexed.now 0 2) kind, is);
      rest = λ b spells answer first. first;
      owed = λ b spells. omega (arith, unmarked_most b.parents (marked_by c.args.indexed.now []));
      cost = spends_none (lookup_price search_cost 0) c.args.spending.now;
    })

pub loop-kind-preserved : goal.loop-kind-preserved
loop-kind-preserved c = record {
  settled = λ b spells.
      (c.in_ok-climbs_to.ensures.answer b spells).marked (c.loop-kind.invariant.settled b spells) c.if-branch.false;
  rest = λ b spells answer rest.
      c.loop-kind.invariant.rest b spells answer
      (passed_over (pairs_of b) c.args.base.now c.args.default.now c.args.kinds.now c.loop-kind.kind-index _ c.loop-kind-test.true
      (λ is_a. true≢false (sym (((c.in_ok-climbs_to.ensures.answer b spells).answer (c.loop-kind.invariant.settled b spells)).1 is_a)
      ∙ c.if-branch.false))
      answer rest);
  owed = λ b spells. omega (arith, c.loop-kind.invariant.owed b spells, (c.in_ok-climbs_to.ensures.takes b spells).owed);
  cost = costs_then (29 * (c.loop-kind.kind-index + 1)) c.loop-kind.invariant.cost c.climbs_to.ensures.cost (omega arith);
}

pub returns-in_err-climbs_to-clause-cost : goal.returns-in_err-climbs_to-clause-cost
returns-in_err-climbs_to-clause-cost c =
    costs_then (29 * length c.args.kinds.now) c.loop-kind.invariant.cost c.climbs_to.ensures.cost
    (omega (arith, c.loop-kind-test.true))

pub returns-then-branch-clause-one : goal.returns-then-branch-clause-one
returns-then-branch-clause-one c =
    candidate c.args.default.now c.args.kinds.now c.loop-kind.kind-index _ c.loop-kind-test.true

pub returns-then-branch-clause-cost : goal.returns-then-branch-clause-cost
returns-then-branch-clause-cost c =
    costs_then (29 * length c.args.kinds.now) c.loop-kind.invariant.cost c.climbs_to.ensures.cost
    (omega (arith, c.loop-kind-test.true))

pub returns-clause-cost : goal.returns-clause-cost
returns-clause-cost c =
    costs_wider search_cost 0 (29 * length c.args.kinds.now) c.loop-kind.invariant.cost (omega arith) (omega arith) (omega arith)
