use Rattle.std.proofs.Common.{ap, arith, inr}
use Rattle.std.proofs.lemmas.Result.{IfErr-weaker}
use Rattle.mime_base.specs.declared.meter.Meter.{Meter}
use Rattle.mime_lookup.specs.Cached.{cause_of}
use Rattle.mime_lookup.proofs.CostLemmas.UsedUp.{uses_up}
use Rattle.mime_lookup.proofs.StopLemmas.ShownFaults.{opened_shows}
use Rattle.mime_lookup.proofs.StopLemmas.StepStops.{stops_then}
use Rattle.mime_lookup.proofs.cached.content_alone.sniff_metered.Goals as goal

pub returns-clause-stops : goal.returns-clause-stops
returns-clause-stops c =
    let records = c.budget.ensures.records in
    let value_bytes = c.budget.ensures.value_bytes in
    let nodes = ap (λ (meter : Meter). meter.nodes) c.requires.begins.visited in
    IfErr-weaker c.sniff_opened-found.result _ _
    (λ e is.
    stops_then (cause_of e) is
    (uses_up c.args.indexed.now c.budget.ensures.opens.limit records value_bytes (omega (arith, nodes))
    c.sniff_opened-found.ensures.cost)
    (λ b enough. (enough.0, omega (arith, enough.1.packed.records, records), omega (arith, enough.1.packed.values, value_bytes)))
    (λ b enough none. none)) c.sniff_opened-found.ensures.stops

pub returns-clause-faults : goal.returns-clause-faults
returns-clause-faults c =
    let found = c.sniff_opened-found in
    opened_shows _ _ c.args.indexed.now found.result c.budget.ensures.opens
    (IfErr-weaker found.result _ _ (λ e is. inr (found.new.spending.budget, is)) found.ensures.fault)
