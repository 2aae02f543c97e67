use Rattle.std.proofs.Common.{◌+◌, ◌<◌, None, Some, length, arith, ◌∙◌, sym, ap, inr}
use Rattle.std.proofs.lemmas.Result.{err_from_is_err_and}
use Rattle.mime_base.specs.Cache.Texts.{text_at}
use Rattle.mime_view.proofs.ListLemmas.PairTexts.{looked_up-at, names, reads_keys, target_at}
use Rattle.mime_view.proofs.pairs.look_up_pair.Goals as goal

pub returns-in_err-entry-clause-answer : goal.returns-in_err-entry-clause-answer
returns-in_err-entry-clause-answer c = λ pairs reads.
    absurd (c.in_err-entry.ensures.answer (names pairs) (reads_keys c.args.counted.now c.args.at pairs reads))

pub returns-in_default-clause-answer : goal.returns-in_default-clause-answer
returns-in_default-clause-answer c = λ pairs reads.
    let found = c.in_ok-entry.ensures.answer (names pairs) (reads_keys c.args.counted.now c.args.at pairs reads) in
    let missed = rw c.in_default.is at found in
    sym (looked_up-at pairs c.args.key.now None missed)

pub returns-in_err-text-clause-answer : goal.returns-in_err-text-clause-answer
returns-in_err-text-clause-answer c = λ pairs reads.
    let entry = rw c.in-Some.is at c.in_ok-entry.ensures.found.entry in
    let n = reads.count in
    let below : c.in-Some.entry.place < length pairs = omega (arith, entry.within) in
    let text = ap (text_at c.args.counted.now) (c.from.ensures ∙ entry.second)
    ∙ target_at c.args.counted.now (c.args.at + 4) pairs c.in-Some.entry.place reads.entries below in
    absurd (cc (text, c.in_err-text.ensures.text))

pub returns-in_err-text-clause-given : goal.returns-in_err-text-clause-given
returns-in_err-text-clause-given c =
    let entry = rw c.in-Some.is at c.in_ok-entry.ensures.found.entry in
    let p = err_from_is_err_and c.from_residual-in_err-text.result c.from_residual-in_err-text.ensures.1 in
    rw p.1 (inr (record {
      i = c.in-Some.entry.place;
      within = entry.within;
      text = record {
        fault = c.in_err-text.field-0.0;
        no_text = ap (text_at c.args.counted.now) (sym (c.from.ensures ∙ entry.second)) ∙ c.in_err-text.ensures.text;
        is = p.2;
      };
    }))

pub returns-clause-answer : goal.returns-clause-answer
returns-clause-answer c = λ pairs reads.
    let found = c.in_ok-entry.ensures.answer (names pairs) (reads_keys c.args.counted.now c.args.at pairs reads) in
    let place = rw c.in-Some.is at found in
    let entry = rw c.in-Some.is at c.in_ok-entry.ensures.found.entry in
    let n = reads.count in
    let below : c.in-Some.entry.place < length pairs = omega (arith, entry.within) in
    let text = ap (text_at c.args.counted.now) (c.from.ensures ∙ entry.second)
    ∙ target_at c.args.counted.now (c.args.at + 4) pairs c.in-Some.entry.place reads.entries below in
    let is = looked_up-at pairs c.args.key.now (Some c.in-Some.entry.place) place in
    cc (is, text, c.in_ok-text.ensures.text)
