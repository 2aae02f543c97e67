use Rattle.std.proofs.Common.{ap, length, arith}
use Rattle.std.proofs.lemmas.Result.{IfErr-weaker, on_ok_weaker}
use Rattle.mime_base.specs.declared.meter.Meter.{Meter}
use Rattle.mime_lookup.specs.Cached.{cause_of}
use Rattle.mime_lookup.proofs.CostLemmas.Bound.{keeps_bounds}
use Rattle.mime_lookup.proofs.CostLemmas.UsedUp.{uses_up}
use Rattle.mime_lookup.proofs.StopLemmas.OpenFaults.{on_ok}
use Rattle.mime_lookup.proofs.StopLemmas.ShownFaults.{opened_shows}
use Rattle.mime_lookup.proofs.StopLemmas.StepStops.{stops_then}
use Rattle.mime_view.specs.Spending.{spending_of}
use Rattle.mime_lookup.proofs.cached.by_name_alone.ask_opened.Goals as goal

pub returns-clause-stops : goal.returns-clause-stops
returns-clause-stops c =
    let records = c.budget.ensures.records in
    let value_bytes = c.budget.ensures.value_bytes in
    let nodes = ap (λ (meter : Meter). meter.nodes) c.requires.header in
    IfErr-weaker c.ask-found.result _ _
    (λ e is.
    stops_then (cause_of e) is
    (uses_up c.args.indexed.now c.budget.ensures.opens.limit records value_bytes (omega (arith, nodes)) c.ask-found.ensures.cost)
    (λ b enough. (
      enough.0,
      record {
        records = omega (arith, enough.1.packed.records, records);
        value_bytes = omega (arith, enough.1.packed.values, value_bytes);
      },
    ))
    (λ b enough none. none)) c.ask-found.ensures.stops

pub returns-clause-faults : goal.returns-clause-faults
returns-clause-faults c = opened_shows _ _ c.args.indexed.now c.ask-found.result c.budget.ensures.opens c.ask-found.ensures.fault

pub returns-clause-costs : goal.returns-clause-costs
returns-clause-costs c =
    let nodes = ap (λ (meter : Meter). meter.nodes) c.requires.header in
    let bytes = ap (λ (meter : Meter). meter.bytes) c.requires.header in
    record {
      bounds = keeps_bounds (length c.args.question.now.name.now) 0 c.args.indexed.now (spending_of c.args.meter.now c.budget.result)
          c.ask-found.new.spending c.budget.ensures.records c.budget.ensures.value_bytes
          (omega (arith, nodes)) (omega (arith, bytes)) c.ask-found.ensures.cost;
      counted = on_ok c.ask-found.result (omega (arith, nodes, c.ask-found.ensures.cost.rises));
      near = λ b globs decide.
          on_ok_weaker c.ask-found.result (λ less. omega (arith, less, nodes)) (c.ask-found.ensures.near b globs decide);
    }
