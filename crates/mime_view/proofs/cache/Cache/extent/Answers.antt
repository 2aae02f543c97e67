use Rattle.std.proofs.Common.{◌≡◌, ℕ, List, get_or, arith, ◌∙◌, ap}
use Rattle.mime_base.specs.Cache.Bytes.{field}
use Rattle.mime_view.proofs.ListLemmas.Headers.{magic_read}
use Rattle.mime_view.proofs.ListLemmas.Records.{record_inside, second_read}
use Rattle.mime_view.proofs.cache.Cache.extent.Goals as goal

pub returns-in_err-extent-clause-answer : goal.returns-in_err-extent-clause-answer
returns-in_err-extent-clause-answer c = λ offsets sections header stand.
    let here = rw (← c.self.view_is) at header in
    let list = rw (← c.self.view_is) at stand in
    let at : c.from.result ≡ offsets.magic =
    c.from.ensures ∙ ap (λ (ns : List ℕ). get_or ns 6 0) c.self.invariant.0 ∙ magic_read c.self.inside.counted offsets here in
    let inside = record_inside c.self.inside.counted offsets.magic _ list.head in
    let outside = c.in_err-extent.ensures.fault.0 in
    absurd (omega arith)

pub returns-clause-answer : goal.returns-clause-answer
returns-clause-answer c = λ offsets sections header stand.
    let here = rw (← c.self.view_is) at header in
    let list = rw (← c.self.view_is) at stand in
    let at : c.from.result ≡ offsets.magic =
    c.from.ensures ∙ ap (λ (ns : List ℕ). get_or ns 6 0) c.self.invariant.0 ∙ magic_read c.self.inside.counted offsets here in
    let stated = second_read c.self.inside.counted offsets.magic _ _ _ list.head in
    ap (λ (ns : List ℕ). get_or ns 1 0) c.in_ok-extent.ensures.numbers.1 ∙ ap (λ (n : ℕ). field c.self.inside.counted n 1) at ∙ stated
