use Rattle.std.proofs.Common.{ap, length, arith}
use Rattle.std.proofs.lemmas.Result.{IfErr-weaker, on_ok_weaker}
use Rattle.mime_base.specs.declared.meter.Meter.{Meter}
use Rattle.mime_lookup.proofs.CostLemmas.Bound.{keeps_bounds}
use Rattle.mime_lookup.proofs.CostLemmas.UsedUp.{uses_up}
use Rattle.mime_lookup.proofs.StopLemmas.OpenFaults.{on_ok}
use Rattle.mime_lookup.proofs.StopLemmas.ShownFaults.{opened_shows}
use Rattle.mime_lookup.proofs.StopLemmas.StepStops.{stops_then}
use Rattle.mime_view.specs.Spending.{spending_of}
use Rattle.mime_lookup.proofs.cached.find_opened.Goals as goal

pub returns-clause-faults : goal.returns-clause-faults
returns-clause-faults g c = opened_shows _ _ c.args.indexed.now c.find-kind.result c.budget.ensures.opens c.find-kind.ensures.fault

pub returns-clause-stops : goal.returns-clause-stops
returns-clause-stops g c =
    let records = c.budget.ensures.records in
    let value_bytes = c.budget.ensures.value_bytes in
    let nodes = ap (λ (meter : Meter). meter.nodes) c.requires.begins.visited in
    IfErr-weaker c.find-kind.result _ _
    (λ stop is.
    stops_then stop is
    (uses_up c.args.indexed.now c.budget.ensures.opens.limit records value_bytes (omega (arith, nodes)) c.find-kind.ensures.cost)
    (λ b enough. (
      enough.0,
      record {
        records = omega (arith, enough.1.packed.records, records);
        value_bytes = omega (arith, enough.1.packed.values, value_bytes);
      },
    ))
    (λ b enough undecided. undecided)) c.find-kind.ensures.stops

pub returns-clause-costs : goal.returns-clause-costs
returns-clause-costs g c =
    let nodes = ap (λ (meter : Meter). meter.nodes) c.requires.begins.visited in
    let bytes = ap (λ (meter : Meter). meter.bytes) c.requires.begins.visited in
    record {
      bounds = keeps_bounds (length c.args.question.now.name.now) c.find-kind.new.read c.args.indexed.now
          (spending_of c.args.meter.now c.budget.result) c.find-kind.new.spending c.budget.ensures.records
          c.budget.ensures.value_bytes (omega (arith, nodes)) (omega (arith, bytes)) c.find-kind.ensures.cost;
      counted = on_ok c.find-kind.result (omega (arith, nodes, c.find-kind.ensures.cost.rises));
      near = λ b globs decide.
          on_ok_weaker c.find-kind.result (λ less. omega (arith, less, nodes)) (c.find-kind.ensures.near b globs decide);
    }
