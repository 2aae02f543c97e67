use Rattle.std.proofs.Common.{◌∙◌, sym}
use Rattle.std.proofs.lemmas.Result.{IfOk-weaker}
use Rattle.mime_base.specs.Cache.Bytes.{field}
use Rattle.mime_lookup.proofs.SniffLemmas.TakenFronts.{taken_front}
use Rattle.mime_lookup.proofs.StopLemmas.PlacedFaults.{no_place}
use Rattle.mime_lookup.proofs.StopLemmas.StepStops.{passed_on, stops_for}
use Rattle.mime_lookup.proofs.cached.content_alone.sniff_opened.Goals as goal

pub returns-in_err-limit-clause-stops : goal.returns-in_err-limit-clause-stops
returns-in_err-limit-clause-stops c =
    let step = c.in_err-limit in
    passed_on _ step.field-0.0 c.from_residual.result c.from_residual.ensures.1
    (stops_for _ _ _ step.field-0.0
    (λ same. absurd (no_place (field c.args.indexed.now 0 6) (sym step.ensures.fault.1 ∙ same)))
    (λ b enough. absurd (step.ensures.need b enough.0)))

pub returns-clause-stops : goal.returns-clause-stops
returns-clause-stops c = rw c.front_limit.ensures.cost.budget at c.sniff_whole.ensures.stops

pub returns-clause-answers : goal.returns-clause-answers
returns-clause-answers c = record {
  answer = λ b magic.
      IfOk-weaker c.sniff_whole.result _ _
      (λ found sniffs.
      taken_front b c.args.host c.args.content.now c.in_ok-limit.limit (c.in_ok-limit.ensures.spelled b magic) found.0.now found.1 sniffs)
      (rw c.front_of-front.ensures at (c.sniff_whole.ensures.answers.answer b magic));
  kind = c.sniff_whole.ensures.answers.kind;
}
