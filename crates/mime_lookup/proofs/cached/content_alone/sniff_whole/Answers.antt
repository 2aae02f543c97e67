use Rattle.std.proofs.Common.{◌∙◌, ap, inl, inr, sym, Some}
use Rattle.mime_lookup.specs.Cached.{cause_of}
use Rattle.mime_lookup.specs.Finding.{priority_of, resolved_finding}
use Rattle.mime_lookup.proofs.OrderLemmas.ByContents.{used_for}
use Rattle.mime_lookup.proofs.SniffLemmas.Findings.{priority-found, sniffed-found}
use Rattle.mime_lookup.proofs.StopLemmas.PlacedFaults.{no_alias}
use Rattle.mime_lookup.proofs.StopLemmas.StepStops.{passed_on, stops_for, stops_then}
use Rattle.mime_lookup.proofs.cached.content_alone.sniff_whole.Goals as goal

pub returns-in_err-finding-clause-stops : goal.returns-in_err-finding-clause-stops
returns-in_err-finding-clause-stops c =
    let step = c.in_err-finding in
    passed_on _ step.field-0.0 c.from_residual.result c.from_residual.ensures.1
    (stops_then (cause_of step.field-0.0) step.ensures.stops
    (used_for c.args.indexed.now c.args.spending.now.budget c.sniff_front.new.spending.budget (λ none. absurd none))
    (λ b enough. (inl enough.0, enough.1, enough.2)) (λ b enough read. read))

pub returns-in_err-finding-clause-fault : goal.returns-in_err-finding-clause-fault
returns-in_err-finding-clause-fault c =
    let step = c.in_err-finding in
    passed_on _ step.field-0.0 c.from_residual.result c.from_residual.ensures.1 (inr step.ensures.fault)

pub returns-in_err-kind-clause-stops : goal.returns-in_err-kind-clause-stops
returns-in_err-kind-clause-stops c =
    let step = c.in_err-kind in
    passed_on _ step.field-0.0 c.from_residual-in_err-kind.result c.from_residual-in_err-kind.ensures.1
    (stops_for _ _ _ step.field-0.0
    (λ same. absurd (no_alias c.args.indexed.now step.field-0.0 step.ensures.fault same))
    (λ b enough. absurd (step.ensures.answer b enough.0.offsets enough.0.header enough.0.aliases)))

pub returns-clause-answers : goal.returns-clause-answers
returns-clause-answers c = record {
  answer = λ b magic.
      let found = c.in_ok-finding.ensures.found b (inl magic) in (
        c.in_ok-kind.ensures.answer b magic.offsets magic.header magic.aliases ∙ ap (resolved_finding b.aliases) found
            ∙ sym (sniffed-found b (Some c.args.front.now) c.args.host),
        c.priority_of.ensures ∙ ap priority_of found ∙ priority-found b c.args.front.now c.args.host,
      );
  kind = c.in_ok-kind.ensures.kind;
}
