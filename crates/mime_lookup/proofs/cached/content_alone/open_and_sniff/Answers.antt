use Rattle.std.proofs.Common.{inl, refl}
use Rattle.mime_lookup.proofs.StopLemmas.OpenFaults.{header_without_fault}
use Rattle.mime_lookup.proofs.StopLemmas.PlacedFaults.{no_header}
use Rattle.mime_lookup.proofs.StopLemmas.ShownFaults.{unopened_shows}
use Rattle.mime_lookup.proofs.StopLemmas.StepStops.{passed_on, stops_for}
use Rattle.mime_lookup.proofs.cached.content_alone.open_and_sniff.Goals as goal

pub returns-in_err-indexed-clause-faults : goal.returns-in_err-indexed-clause-faults
returns-in_err-indexed-clause-faults c =
    let opened = c.in_err-indexed.ensures.opened in
    unopened_shows _ _ c.args.cache (λ e. e) c.in_err-indexed.field-0.0 c.from_residual.result (λ e is. refl) opened
    c.from_residual.ensures.1 (inl opened)

pub returns-in_err-indexed-clause-stops : goal.returns-in_err-indexed-clause-stops
returns-in_err-indexed-clause-stops c =
    let fault = c.in_err-indexed.field-0.0 in
    let opened = c.in_err-indexed.ensures.opened in
    passed_on _ fault c.from_residual.result c.from_residual.ensures.1
    (stops_for _ _ _ fault (λ same. absurd (no_header c.args.cache fault opened same))
    (λ b enough. absurd (header_without_fault c.args.cache enough.0.offsets fault enough.0.header enough.1.small opened)))

pub returns-clause-faults : goal.returns-clause-faults
returns-clause-faults c = rw c.in_ok-indexed.ensures.opened.0 at c.sniff_metered.ensures.faults

pub returns-clause-stops : goal.returns-clause-stops
returns-clause-stops c = rw c.in_ok-indexed.ensures.opened.0 at c.sniff_metered.ensures.stops
