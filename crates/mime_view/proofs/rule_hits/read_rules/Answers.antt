use Rattle.std.proofs.Common.{inl}
use Rattle.std.proofs.lemmas.Result.{err_from_is_err_and}
use Rattle.mime_view.proofs.HitsLemmas.GivenRules.{text-at_hit}
use Rattle.mime_view.proofs.HitsLemmas.KindFaults.{fault-at_hit}
use Rattle.mime_view.proofs.rule_hits.read_rules.Goals as goal

pub returns-in_err-kind-clause-need : goal.returns-in_err-kind-clause-need
returns-in_err-kind-clause-need c = λ texts are.
    let stands = text-at_hit c.args.counted.now c.args.hits.now texts c.loop-hit.hit-index (0, 0) are c.loop-hit-test.true in
    let at = c.from.ensures in
    let text = stands.1 in
    absurd (cc (c.in_err-kind.ensures.text, at, text))

pub returns-in_err-kind-clause-fault : goal.returns-in_err-kind-clause-fault
returns-in_err-kind-clause-fault c =
    let at = c.from.ensures in
    let p = err_from_is_err_and c.from_residual-in_err-kind.result c.from_residual-in_err-kind.ensures.1 in
    rw p.1 (inl (fault-at_hit c.args.counted.now c.args.hits.now c.loop-hit.hit-index (0, 0) p.0 c.loop-hit-test.true
    (record { fault = c.in_err-kind.field-0.0; no_text = cc (c.in_err-kind.ensures.text, at); is = p.2 })))
