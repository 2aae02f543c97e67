use Rattle.std.proofs.Common.{arith, rules, inl}
use Rattle.std.proofs.lemmas.List.{take_all}
use Rattle.std.proofs.lemmas.Result.{err_from_is_err_and}
use Rattle.mime_view.proofs.HitsLemmas.KindTexts.{AreTexts-at, AreTexts-one, AreTexts-pushed}
use Rattle.mime_view.proofs.kinds.read_kinds.Goals as goal

pub returns-in_err-text-clause-need : goal.returns-in_err-text-clause-need
returns-in_err-text-clause-need c = λ texts are.
    let stands = AreTexts-at c.args.counted.now c.args.places.now texts 0 are (omega (arith, c.if-places-eq1.true)) in
    let at = c.from.ensures in
    let text = stands.1 in
    absurd (cc (c.in_err-text.ensures.text, at, text))

pub returns-then-places-eq1-clause-answer : goal.returns-then-places-eq1-clause-answer
returns-then-places-eq1-clause-answer c =
    rw c.one.ensures (AreTexts-one c.args.counted.now c.args.places.now c.from.result c.in_ok-text.text.now c.if-places-eq1.true
    c.from.ensures c.in_ok-text.ensures.text)

pub loop-place-preserved : goal.loop-place-preserved
loop-place-preserved c = record {
  are = AreTexts-pushed c.args.counted.now c.args.places.now c.loop-place.place-index c.from-in-loop-place.result c.loop-place.texts.items
      c.push.new.self.items c.in_ok-text-2.text c.loop-place-test.true c.from-in-loop-place.ensures c.in_ok-push.ensures.items
      c.loop-place.invariant.are c.in_ok-text-2.ensures.text;
  nodes = search rules;
  bytes_rise = search rules;
  bytes = search rules;
}

pub returns-in_err-text-2-clause-need : goal.returns-in_err-text-2-clause-need
returns-in_err-text-2-clause-need c = λ texts are.
    let stands = AreTexts-at c.args.counted.now c.args.places.now texts c.loop-place.place-index are c.loop-place-test.true in
    let at = c.from-in-loop-place.ensures in
    let text = stands.1 in
    absurd (cc (c.in_err-text-2.ensures.text, at, text))

pub returns-clause-answer : goal.returns-clause-answer
returns-clause-answer c =
    let all = take_all c.loop-place.place-index c.args.places.now c.loop-place-test.false in
    rw c.of.ensures (rw all at c.loop-place.invariant.are)

pub returns-in_err-text-2-clause-fault : goal.returns-in_err-text-2-clause-fault
returns-in_err-text-2-clause-fault c =
    let at = c.from-in-loop-place.ensures in
    let p = err_from_is_err_and c.from_residual-in_err-text-2.result c.from_residual-in_err-text-2.ensures.1 in
    rw p.1 (inl (record {
      i = c.loop-place.place-index;
      within = c.loop-place-test.true;
      no_text = record { fault = c.in_err-text-2.field-0.0; no_text = cc (c.in_err-text-2.ensures.text, at); is = p.2 };
    }))
