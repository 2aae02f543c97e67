mod Unasked
mod Every
use Rattle.std.proofs.Common.{◌≡◌, None, Some, ap, length, arith}
use Rattle.mime_lookup.specs.Cached.{cause_of, plain_finding}
use Rattle.mime_lookup.specs.Costs.{record_cost}
use Rattle.mime_lookup.specs.Halves.{bytes_of}
use Rattle.mime_lookup.specs.declared.cached.by_name.Candidates.TheVariants.{Kept}
use Rattle.mime_lookup.proofs.OrderLemmas.ByContents.{suffices_choice, suffices_content, used_unread}
use Rattle.mime_lookup.proofs.CostLemmas.Costs.{costs_sniffed, costs_wider}
use Rattle.mime_lookup.proofs.OrderLemmas.GlobsFirst.{with_content}
use Rattle.mime_lookup.proofs.CostLemmas.Near.{none_kept}
use Rattle.mime_lookup.proofs.StopLemmas.StepStops.{passed_on, stops_then}
use Rattle.mime_view.specs.declared.spending.Spending.{Spending}
use Rattle.mime_lookup.proofs.cached.by_content.by_content.Answers.Unasked as of_unasked
use Rattle.mime_lookup.proofs.cached.by_content.by_content.Answers.Every as of_every
use Rattle.mime_lookup.proofs.cached.by_content.by_content.Goals as goal

pub returns-in_err-finding-clause-stops : goal.returns-in_err-finding-clause-stops
returns-in_err-finding-clause-stops c =
    let sniff = c.in_err-finding in
    passed_on _ sniff.field-0.0 c.from_residual.result c.from_residual.ensures.1
    (stops_then (cause_of sniff.field-0.0) sniff.ensures.stops (λ used. used) (λ b enough. (
      suffices_content c.args.indexed.now c.args.question.now.name.now (bytes_of c.args.front ≡ None) b c.args.candidates enough.1 enough.0,
      omega (arith, enough.2.records),
      enough.2.value_bytes,
    )) (λ b enough read. read))

pub returns-in_err-finding-clause-cost : goal.returns-in_err-finding-clause-cost
returns-in_err-finding-clause-cost c =
    costs_wider (record_cost (length c.args.question.now.name.now)) _ _ c.sniff_front.ensures.cost (omega arith) (omega arith) (omega arith)

pub choose-requires-clause-texts : goal.choose-requires-clause-texts
choose-requires-clause-texts c = rw c.as_slice.ensures (rw c.in-Kept.is at c.requires.texts)

pub returns-in_err-kind-in-Kept-clause-stops : goal.returns-in_err-kind-in-Kept-clause-stops
returns-in_err-kind-in-Kept-clause-stops c =
    let choose = rw c.as_slice.ensures at c.in_err-kind-in-Kept.ensures.stops in
    rw c.in-Kept.is (passed_on _ c.in_err-kind-in-Kept.field-0.0 c.from_residual-in_err-kind-in-Kept.result
    c.from_residual-in_err-kind-in-Kept.ensures.1 (stops_then (cause_of c.in_err-kind-in-Kept.field-0.0) choose
    (used_unread c.args.indexed.now c.args.spending.now.budget _ c.choose.new.spending.budget tt) (λ b enough.
    let content = suffices_content c.args.indexed.now c.args.question.now.name.now (bytes_of c.args.front ≡ None) b (Kept c.in-Kept.kinds) enough.1 enough.0 in (
      suffices_choice c.args.indexed.now c.args.question.now.name.now (bytes_of c.args.front ≡ None) b c.in-Kept.kinds enough.1.1 enough.1.0 enough.0,
      omega (arith, enough.2.records, c.in_ok-finding.ensures.takes b content),
    )) (λ b enough read. read)))

pub returns-in_err-kind-in-Kept-clause-cost : goal.returns-in_err-kind-in-Kept-clause-cost
returns-in_err-kind-in-Kept-clause-cost c =
    rw c.in-Kept.is (costs_sniffed (length c.args.question.now.name.now) _ c.in_ok-finding.ensures.cost
    (rw c.as_slice.ensures at c.in_err-kind-in-Kept.ensures.costs.cost) (omega arith) (omega arith))

pub returns-in_ok-kind-in-Kept-clause-chosen : goal.returns-in_ok-kind-in-Kept-clause-chosen
returns-in_ok-kind-in-Kept-clause-chosen c =
    rw c.in-Kept.is (λ b enough leaves.
    with_content b c.args.question.now.name.now c.args.question.now.host (plain_finding c.in_ok-finding.finding) (Some _) c.in-Kept.kinds
    c.in_ok-kind-in-Kept.kind.now leaves.1
    (c.in_ok-finding.ensures.found b (suffices_content c.args.indexed.now c.args.question.now.name.now (bytes_of c.args.front ≡ None) b (Kept c.in-Kept.kinds) leaves enough))
    ((rw c.as_slice.ensures at c.in_ok-kind-in-Kept.ensures.answers.chosen) b
    (suffices_choice c.args.indexed.now c.args.question.now.name.now (bytes_of c.args.front ≡ None) b c.in-Kept.kinds leaves.1 leaves.0 enough)))

pub returns-in_ok-kind-in-Kept-clause-near : goal.returns-in_ok-kind-in-Kept-clause-near
returns-in_ok-kind-in-Kept-clause-near c =
    rw c.in-Kept.is (λ b globs leaves decide.
    let none = none_kept b c.args.question.now.name.now _ c.in-Kept.kinds leaves.1 leaves.0 decide in
    let unspent = (rw c.as_slice.ensures at c.in_ok-kind-in-Kept.ensures.costs.alone) (omega (arith, ap length none.0)) in
    omega (arith, unspent.looks.most_nodes, ap (λ (spending : Spending). spending.meter.nodes) (c.in_ok-finding.ensures.nothing none.1)))

pub returns-in_ok-kind-in-Kept-clause-cost : goal.returns-in_ok-kind-in-Kept-clause-cost
returns-in_ok-kind-in-Kept-clause-cost c =
    rw c.in-Kept.is (costs_sniffed (length c.args.question.now.name.now) _ c.in_ok-finding.ensures.cost
    (rw c.as_slice.ensures at c.in_ok-kind-in-Kept.ensures.costs.cost) (omega arith) (omega arith))

pub returns-in_err-kind-in-Unasked-clause-stops : goal.returns-in_err-kind-in-Unasked-clause-stops
returns-in_err-kind-in-Unasked-clause-stops = of_unasked.returns-in_err-kind-in-Unasked-clause-stops

pub returns-in_err-kind-in-Unasked-clause-cost : goal.returns-in_err-kind-in-Unasked-clause-cost
returns-in_err-kind-in-Unasked-clause-cost = of_unasked.returns-in_err-kind-in-Unasked-clause-cost

pub returns-then-is_high-clause-chosen : goal.returns-then-is_high-clause-chosen
returns-then-is_high-clause-chosen = of_unasked.returns-then-is_high-clause-chosen

pub returns-then-is_high-clause-near : goal.returns-then-is_high-clause-near
returns-then-is_high-clause-near = of_unasked.returns-then-is_high-clause-near

pub returns-then-is_high-clause-cost : goal.returns-then-is_high-clause-cost
returns-then-is_high-clause-cost = of_unasked.returns-then-is_high-clause-cost

pub returns-in_err-kind-in-Unasked-2-clause-stops : goal.returns-in_err-kind-in-Unasked-2-clause-stops
returns-in_err-kind-in-Unasked-2-clause-stops = of_unasked.returns-in_err-kind-in-Unasked-2-clause-stops

pub returns-in_err-kind-in-Unasked-2-clause-fault : goal.returns-in_err-kind-in-Unasked-2-clause-fault
returns-in_err-kind-in-Unasked-2-clause-fault = of_unasked.returns-in_err-kind-in-Unasked-2-clause-fault

pub returns-in_err-kind-in-Unasked-2-clause-cost : goal.returns-in_err-kind-in-Unasked-2-clause-cost
returns-in_err-kind-in-Unasked-2-clause-cost = of_unasked.returns-in_err-kind-in-Unasked-2-clause-cost

pub returns-in_ok-kind-in-Unasked-2-clause-chosen : goal.returns-in_ok-kind-in-Unasked-2-clause-chosen
returns-in_ok-kind-in-Unasked-2-clause-chosen = of_unasked.returns-in_ok-kind-in-Unasked-2-clause-chosen

pub returns-in_ok-kind-in-Unasked-2-clause-near : goal.returns-in_ok-kind-in-Unasked-2-clause-near
returns-in_ok-kind-in-Unasked-2-clause-near = of_unasked.returns-in_ok-kind-in-Unasked-2-clause-near

pub returns-in_ok-kind-in-Unasked-2-clause-cost : goal.returns-in_ok-kind-in-Unasked-2-clause-cost
returns-in_ok-kind-in-Unasked-2-clause-cost = of_unasked.returns-in_ok-kind-in-Unasked-2-clause-cost

pub returns-in_err-kind-in-Ignored-clause-stops : goal.returns-in_err-kind-in-Ignored-clause-stops
returns-in_err-kind-in-Ignored-clause-stops = of_unasked.returns-in_err-kind-in-Ignored-clause-stops

pub returns-in_err-kind-in-Ignored-clause-cost : goal.returns-in_err-kind-in-Ignored-clause-cost
returns-in_err-kind-in-Ignored-clause-cost = of_unasked.returns-in_err-kind-in-Ignored-clause-cost

pub returns-in_ok-kind-in-Ignored-clause-chosen : goal.returns-in_ok-kind-in-Ignored-clause-chosen
returns-in_ok-kind-in-Ignored-clause-chosen = of_unasked.returns-in_ok-kind-in-Ignored-clause-chosen

pub returns-in_ok-kind-in-Ignored-clause-near : goal.returns-in_ok-kind-in-Ignored-clause-near
returns-in_ok-kind-in-Ignored-clause-near = of_unasked.returns-in_ok-kind-in-Ignored-clause-near

pub returns-in_ok-kind-in-Ignored-clause-cost : goal.returns-in_ok-kind-in-Ignored-clause-cost
returns-in_ok-kind-in-Ignored-clause-cost = of_unasked.returns-in_ok-kind-in-Ignored-clause-cost

pub choose-requires-in-Every-clause-texts : goal.choose-requires-in-Every-clause-texts
choose-requires-in-Every-clause-texts = of_every.choose-requires-in-Every-clause-texts

pub returns-in_err-kind-in-Every-clause-stops : goal.returns-in_err-kind-in-Every-clause-stops
returns-in_err-kind-in-Every-clause-stops = of_every.returns-in_err-kind-in-Every-clause-stops

pub returns-in_err-kind-in-Every-clause-cost : goal.returns-in_err-kind-in-Every-clause-cost
returns-in_err-kind-in-Every-clause-cost = of_every.returns-in_err-kind-in-Every-clause-cost

pub returns-in_ok-kind-in-Every-clause-chosen : goal.returns-in_ok-kind-in-Every-clause-chosen
returns-in_ok-kind-in-Every-clause-chosen = of_every.returns-in_ok-kind-in-Every-clause-chosen

pub returns-in_ok-kind-in-Every-clause-near : goal.returns-in_ok-kind-in-Every-clause-near
returns-in_ok-kind-in-Every-clause-near = of_every.returns-in_ok-kind-in-Every-clause-near

pub returns-in_ok-kind-in-Every-clause-cost : goal.returns-in_ok-kind-in-Every-clause-cost
returns-in_ok-kind-in-Every-clause-cost = of_every.returns-in_ok-kind-in-Every-clause-cost
