use Rattle.std.proofs.Common.{◌≡◌, ℕ, None, ap, arith}
use Rattle.mime_base.specs.declared.meter.Meter.{Meter}
use Rattle.mime_lookup.specs.Cached.{cause_of}
use Rattle.mime_lookup.specs.StepFaults.{of_header}
use Rattle.mime_lookup.proofs.OrderLemmas.ByContents.{suffices_globs}
use Rattle.mime_lookup.proofs.StopLemmas.OpenFaults.{cause_of-open_fault, header_without_fault}
use Rattle.mime_lookup.proofs.StopLemmas.PlacedFaults.{no_header}
use Rattle.mime_lookup.proofs.StopLemmas.ShownFaults.{unopened_shows}
use Rattle.mime_lookup.proofs.ContentLemmas.ReadHalves.{reads_early}
use Rattle.mime_lookup.proofs.StopLemmas.StepStops.{not_ok, passed_on, stop_of_fault, stops_for}
use Rattle.mime_lookup.proofs.cached.open_and_find.Goals as goal

pub returns-in_err-indexed-clause-faults : goal.returns-in_err-indexed-clause-faults
returns-in_err-indexed-clause-faults g c =
    let fault = c.in_err-indexed.field-0.0 in
    let opened = c.in_err-indexed.ensures.opened in
    unopened_shows _ _ c.args.cache cause_of fault c.from_residual.result (cause_of-open_fault c.args.cache) opened
    c.from_residual.ensures.1 (stop_of_fault _ fault (of_header opened))

pub returns-in_err-indexed-clause-stops : goal.returns-in_err-indexed-clause-stops
returns-in_err-indexed-clause-stops g c =
    let fault = c.in_err-indexed.field-0.0 in
    let opened = c.in_err-indexed.ensures.opened in
    passed_on _ (cause_of fault) c.from_residual.result c.from_residual.ensures.1
    (stops_for _ _ _ fault (λ same. absurd (no_header c.args.cache fault opened same))
    (λ b enough.
    let globs = suffices_globs c.args.cache c.args.question.now.name.now (c.args.content.now ≡ None) b c.args.question.now.order enough.0 in
    absurd (header_without_fault c.args.cache globs.offsets fault globs.header enough.1.small opened)))

pub returns-in_err-indexed-clause-reads : goal.returns-in_err-indexed-clause-reads
returns-in_err-indexed-clause-reads g c =
    reads_early g.R.Read.remaining g.R.Content.tally g.R.Content.health c.args.cache c.args.question.now.name.now c.args.question.now.order c.args.content.now
    c.args.read.now c.in_err-indexed.field-0.0 c.from_residual.result c.from_residual.ensures.1 c.requires.begins.none

pub returns-in_err-indexed-clause-costs : goal.returns-in_err-indexed-clause-costs
returns-in_err-indexed-clause-costs g c =
    let passed = c.from_residual.ensures.1 in
    let nodes : Meter → ℕ = λ meter. meter.nodes in
    let bytes : Meter → ℕ = λ meter. meter.bytes in
    record {
      bounds = record {
        nodes = omega (arith, c.open.ensures.nodes, ap nodes c.requires.begins.visited);
        bytes = omega (arith, c.open.ensures.bytes, ap bytes c.requires.begins.visited);
      };
      counted = not_ok _ _ c.from_residual.result passed;
      near = λ b globs decide. not_ok _ _ c.from_residual.result passed;
    }

pub returns-clause-answers : goal.returns-clause-answers
returns-clause-answers g c = rw c.in_ok-indexed.ensures.opened.0 at c.find_opened.ensures.answers

pub returns-clause-faults : goal.returns-clause-faults
returns-clause-faults g c = rw c.in_ok-indexed.ensures.opened.0 at c.find_opened.ensures.faults

pub returns-clause-stops : goal.returns-clause-stops
returns-clause-stops g c = rw c.in_ok-indexed.ensures.opened.0 at c.find_opened.ensures.stops

pub returns-clause-reads : goal.returns-clause-reads
returns-clause-reads g c = rw c.in_ok-indexed.ensures.opened.0 at c.find_opened.ensures.reads

pub returns-clause-costs : goal.returns-clause-costs
returns-clause-costs g c = rw c.in_ok-indexed.ensures.opened.0 at c.find_opened.ensures.costs
