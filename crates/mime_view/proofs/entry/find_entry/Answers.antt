use Rattle.std.proofs.Common.{◌≡◌, ◌+◌, [], length, get_or, arith, ◌∙◌, sym}
use Rattle.mime_view.proofs.SearchLemmas.Lookups.{place_of-found, place_of-missed}
use Rattle.mime_view.proofs.ListLemmas.OneText.{one_text, other_text}
use Rattle.mime_view.proofs.SearchLemmas.Places.{key_at}
use Rattle.mime_view.proofs.entry.find_entry.Goals as goal

pub returns-in_err-sought-clause-answer : goal.returns-in_err-sought-clause-answer
returns-in_err-sought-clause-answer c = λ keys reads.
    let n : length keys ≡ c.in_ok-count.count = sym (c.in_ok-count.ensures.count.0 ∙ reads.count) in
    absurd (c.in_err-sought.ensures.answer keys n reads.texts)

pub returns-clause-answer : goal.returns-clause-answer
returns-clause-answer c = λ keys reads.
    let n : length keys ≡ c.in_ok-count.count = sym (c.in_ok-count.ensures.count.0 ∙ reads.count) in
    let splits = c.in_ok-sought.ensures.answer keys n reads.texts reads.sorted in
    sym (place_of-missed keys c.args.key.now c.in_ok-sought.sought.place splits reads.sorted
    (λ l.
    let text = key_at c.args.counted.now (c.args.at + 4) 8 keys c.in_ok-sought.sought.place reads.texts l in
    other_text _ c.args.key.now (c.in_ok-sought.ensures.sought.other c.if-sought.false _ (omega (arith, n, l)) text)))

pub returns-then-sought-clause-answer : goal.returns-then-sought-clause-answer
returns-then-sought-clause-answer c = λ keys reads.
    let n : length keys ≡ c.in_ok-count.count = sym (c.in_ok-count.ensures.count.0 ∙ reads.count) in
    let splits = c.in_ok-sought.ensures.answer keys n reads.texts reads.sorted in
    let found = c.in_ok-sought.ensures.sought.same c.if-sought.true in
    let text = key_at c.args.counted.now (c.args.at + 4) 8 keys c.in_ok-sought.sought.place reads.texts (omega (arith, n, found.0)) in
    let same = one_text _ (get_or keys c.in_ok-sought.sought.place []) c.args.key.now text found.1 in
    sym (place_of-found keys c.args.key.now c.in_ok-sought.sought.place splits (omega (arith, n, found.0)) same)
