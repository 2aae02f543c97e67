use Rattle.std.proofs.Common.{◌∙◌, ◌≤◌, length, sym, arith}
use Rattle.mime_base.specs.Cache.Bytes.{field}
use Rattle.mime_lookup.specs.Cached.{cause_of}
use Rattle.mime_lookup.specs.CheckingOrder.{read_limit}
use Rattle.mime_lookup.proofs.OrderLemmas.ByContents.{content_magic}
use Rattle.mime_lookup.proofs.SniffLemmas.FoundFronts.{limit-stated}
use Rattle.mime_lookup.proofs.SniffLemmas.Front.{enough_read}
use Rattle.mime_lookup.proofs.StopLemmas.PlacedFaults.{no_place}
use Rattle.mime_lookup.proofs.StopLemmas.StepStops.{passed_on, stop_of_fault, stop_of_read, stops_for, stops_reading}
use Rattle.mime_lookup.proofs.cached.read_content.Goals as goal

pub returns-in_err-extent-clause-stops : goal.returns-in_err-extent-clause-stops
returns-in_err-extent-clause-stops g c =
    let fault = c.in_err-extent.field-0.0 in
    let head = c.in_err-extent.ensures.fault in
    rw c.in-Some.is (passed_on _ (cause_of fault) c.from_residual.result c.from_residual.ensures.1
    (stops_for _ _ _ fault
    (λ same. no_place (field c.args.indexed.now 0 6) (sym head.1 ∙ same))
    (λ b enough.
    let magic = content_magic c.args.indexed.now _ b enough in
    absurd (c.in_err-extent.ensures.answer magic.offsets b.sections magic.header magic.magic))))

pub returns-in_err-extent-clause-fault : goal.returns-in_err-extent-clause-fault
returns-in_err-extent-clause-fault g c =
    let fault = c.in_err-extent.field-0.0 in
    rw c.in-Some.is (passed_on _ (cause_of fault) c.from_residual.result c.from_residual.ensures.1
    (stop_of_fault _ fault ((λ none. absurd cc), c.in_err-extent.ensures.fault)))

pub returns-in_err-front-clause-fault : goal.returns-in_err-front-clause-fault
returns-in_err-front-clause-fault g c =
    passed_on _ c.in_err-front.field-0.0 c.from_residual-in_err-front.result c.from_residual-in_err-front.ensures.1
    (stop_of_read c.in_err-front.ensures.causes)

pub returns-in_err-front-clause-stops : goal.returns-in_err-front-clause-stops
returns-in_err-front-clause-stops g c =
    rw c.in-Some.is (passed_on _ c.in_err-front.field-0.0 c.from_residual-in_err-front.result c.from_residual-in_err-front.ensures.1
    (stops_reading _ _ _ c.in_err-front.field-0.0 c.in_err-front.ensures.causes (λ b none. absurd cc)))

pub returns-clause-front : goal.returns-clause-front
returns-clause-front g c =
    let front = c.in_ok-front.front.items in
    let read = c.in_ok-front.ensures in
    rw c.in-Some.is (record {
      enough = λ b magic.
          let limit = limit-stated b _ _ c.max-limit.ensures
          (c.in_ok-extent.ensures.answer magic.offsets b.sections magic.header magic.magic) in
          let limited : length front ≤ read_limit b = omega (arith, read.front.0, c.read_front.ensures.reader.within, limit) in
          enough_read b _ _ front read.front.1 limited (λ short. read.whole (omega (arith, short, read.front.0, limit)));
      size = sym read.front.0;
      absent = λ none. absurd cc;
    })
