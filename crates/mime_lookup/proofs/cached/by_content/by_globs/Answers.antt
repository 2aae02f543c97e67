use Rattle.std.proofs.Common.{◌+◌, ◌*◌, ap, arith, inl, inr, length}
use Rattle.std.specs.Prelude.{⊤}
use Rattle.mime_base.specs.Database.{pairs_of}
use Rattle.mime_lookup.specs.Cached.{cause_of, plain_finding}
use Rattle.mime_lookup.specs.Choice.{kept}
use Rattle.mime_lookup.specs.Costs.{glob_cost, record_cost}
use Rattle.mime_lookup.specs.Finding.{resolved_finding}
use Rattle.mime_lookup.specs.declared.order.Order.TheVariants.{GlobsFirst}
use Rattle.mime_lookup.proofs.OrderLemmas.Answering.{one_type_chosen}
use Rattle.mime_lookup.proofs.OrderLemmas.ByContents.{suffices_choice, suffices_globs, used_unread}
use Rattle.mime_lookup.proofs.CostLemmas.Costs.{costs_owed, costs_wider}
use Rattle.mime_lookup.proofs.CostLemmas.Near.{none_kept}
use Rattle.mime_lookup.proofs.StopLemmas.StepStops.{not_ok, passed_on, stops_for, stops_then}
use Rattle.mime_lookup.proofs.CostLemmas.UsedUp.{globs_spent}
use Rattle.mime_lookup.proofs.cached.by_content.by_globs.Goals as goal

pub returns-in_err-types-clause-stops : goal.returns-in_err-types-clause-stops
returns-in_err-types-clause-stops c =
    let types = c.in_err-types in
    passed_on _ types.field-0.0 c.from_residual.result c.from_residual.ensures.1
    (stops_for _ _ _ types.field-0.0
    (λ same. inl (globs_spent c.args.indexed.now c.args.name.now c.types_of.new.spending.budget types.field-0.0 types.ensures.fault same))
    (λ b enough. (types.ensures.gives b (suffices_globs c.args.indexed.now c.args.name.now ⊤ b GlobsFirst enough.0)).given.need
    (omega (arith, enough.1))))

pub returns-in_err-types-clause-fault : goal.returns-in_err-types-clause-fault
returns-in_err-types-clause-fault c =
    let types = c.in_err-types in
    passed_on _ types.field-0.0 c.from_residual.result c.from_residual.ensures.1 (inl types.ensures.fault)

pub returns-in_err-types-clause-costs : goal.returns-in_err-types-clause-costs
returns-in_err-types-clause-costs c = record {
  near = λ b globs decide. not_ok _ _ c.from_residual.result c.from_residual.ensures.1;
  cost =
      costs_wider _ _ (glob_cost (length c.args.name.now) + 29) c.in_err-types.ensures.cost.alone (omega arith) (omega arith) (omega arith);
}

pub returns-in-One-clause-answers : goal.returns-in-One-clause-answers
returns-in-One-clause-answers c = record {
  chosen = λ b enough.
      let globs = suffices_globs c.args.indexed.now c.args.name.now ⊤ b GlobsFirst enough in
      let is = rw c.in-One.is at (c.in_ok-types.ensures.gives b globs).given.answer in
      rw is.1 (one_type_chosen (pairs_of b) (kept (pairs_of b) b.rules c.args.name.now)
      (resolved_finding b.aliases (plain_finding c.args.finding)) is.0);
  kind = inl (rw c.in-One.is at c.in_ok-types.ensures.text);
}

pub returns-in-One-clause-costs : goal.returns-in-One-clause-costs
returns-in-One-clause-costs c = record {
  near = λ b globs decide. omega (arith, (c.in_ok-types.ensures.gives b globs).near);
  cost =
      costs_wider _ _ (glob_cost (length c.args.name.now) + 29) c.in_ok-types.ensures.cost.alone (omega arith) (omega arith) (omega arith);
}

pub choose-requires-clause-texts : goal.choose-requires-clause-texts
choose-requires-clause-texts c = rw c.as_slice.ensures (rw c.in-Others.is at c.in_ok-types.ensures.text).0

pub returns-in_err-kind-in-Others-clause-stops : goal.returns-in_err-kind-in-Others-clause-stops
returns-in_err-kind-in-Others-clause-stops c =
    let choose = rw c.as_slice.ensures at c.in_err-kind-in-Others.ensures.stops in
    passed_on _ c.in_err-kind-in-Others.field-0.0 c.from_residual-in_err-kind-in-Others.result
    c.from_residual-in_err-kind-in-Others.ensures.1
    (stops_then (cause_of c.in_err-kind-in-Others.field-0.0) choose
    (used_unread c.args.indexed.now c.args.spending.now.budget _ c.choose.new.spending.budget tt)
    (λ b enough.
    let globs = suffices_globs c.args.indexed.now c.args.name.now ⊤ b GlobsFirst enough.0 in
    let is = rw c.in-Others.is at (c.in_ok-types.ensures.gives b globs).given.answer in (
      suffices_choice c.args.indexed.now c.args.name.now ⊤ b c.in-Others.kinds is.1 is.0 enough.0,
      omega (arith, enough.1, (c.in_ok-types.ensures.gives b globs).given.most),
    ))
    (λ b enough read. read))

pub returns-in_err-kind-in-Others-clause-fault : goal.returns-in_err-kind-in-Others-clause-fault
returns-in_err-kind-in-Others-clause-fault c =
    let kind = c.in_err-kind-in-Others in
    passed_on _ kind.field-0.0 c.from_residual-in_err-kind-in-Others.result c.from_residual-in_err-kind-in-Others.ensures.1
    (inr kind.ensures.fault)

pub returns-in_err-kind-in-Others-clause-costs : goal.returns-in_err-kind-in-Others-clause-costs
returns-in_err-kind-in-Others-clause-costs c =
    let name = length c.args.name.now in
    let choose = rw c.as_slice.ensures at c.in_err-kind-in-Others.ensures.costs in
    record {
      near = λ b globs decide.
          not_ok _ _ c.from_residual-in_err-kind-in-Others.result c.from_residual-in_err-kind-in-Others.ensures.1;
      cost = costs_owed (glob_cost name + 29) (rw c.in-Others.is at c.in_ok-types.ensures.cost)
          (costs_wider (record_cost name) 0 (29 + 29 * length c.in-Others.kinds) choose.cost (omega arith) (omega arith) (omega arith))
          (omega arith);
    }

pub returns-in_ok-kind-in-Others-clause-answers : goal.returns-in_ok-kind-in-Others-clause-answers
returns-in_ok-kind-in-Others-clause-answers c = record {
  chosen = λ b enough.
      let globs = suffices_globs c.args.indexed.now c.args.name.now ⊤ b GlobsFirst enough in
      let is = rw c.in-Others.is at (c.in_ok-types.ensures.gives b globs).given.answer in
      rw (← is.1) ((rw c.as_slice.ensures at c.in_ok-kind-in-Others.ensures.answers.chosen) b
      (suffices_choice c.args.indexed.now c.args.name.now ⊤ b c.in-Others.kinds is.1 is.0 enough));
  kind = c.in_ok-kind-in-Others.ensures.answers.kind;
}

pub returns-in_ok-kind-in-Others-clause-costs : goal.returns-in_ok-kind-in-Others-clause-costs
returns-in_ok-kind-in-Others-clause-costs c =
    let name = length c.args.name.now in
    let choose = rw c.as_slice.ensures at c.in_ok-kind-in-Others.ensures.costs in
    record {
      near = λ b globs decide.
          let is = rw c.in-Others.is at (c.in_ok-types.ensures.gives b globs).given.answer in
          let none = none_kept b c.args.name.now ⊤ c.in-Others.kinds is.1 is.0 decide in
          omega (arith, (choose.alone (omega (arith, ap length none.0))).looks.most_nodes, (c.in_ok-types.ensures.gives b globs).near);
      cost = costs_owed (glob_cost name + 29) (rw c.in-Others.is at c.in_ok-types.ensures.cost)
          (costs_wider (record_cost name) 0 (29 + 29 * length c.in-Others.kinds) choose.cost (omega arith) (omega arith) (omega arith))
          (omega arith);
    }
