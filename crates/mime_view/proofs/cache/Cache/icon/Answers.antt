use Rattle.std.proofs.Common.{◌≡◌, ℕ, List, get_or, ◌∙◌, sym, ap}
use Rattle.mime_view.proofs.ListLemmas.Headers.{icons_read}
use Rattle.mime_view.proofs.ListLemmas.Spelled.{looked_up-sorted, pairs_reads}
use Rattle.mime_view.proofs.cache.Cache.icon.Goals as goal

pub returns-in_err-name-clause-answer : goal.returns-in_err-name-clause-answer
returns-in_err-name-clause-answer c = λ offsets pairs header stand.
    let here = rw (← c.self.view_is) at header in
    let list = rw (← c.self.view_is) at stand in
    let at : c.from.result ≡ offsets.icons =
    c.from.ensures ∙ ap (λ (ns : List ℕ). get_or ns 8 0) c.self.invariant.0 ∙ icons_read c.self.inside.counted offsets here in
    let reads = rw (sym at) at (pairs_reads c.self.inside.counted offsets.icons pairs list) in
    absurd (c.in_err-name.ensures.answer list.entries reads)

pub returns-clause-answer : goal.returns-clause-answer
returns-clause-answer c = λ offsets pairs header stand.
    let here = rw (← c.self.view_is) at header in
    let list = rw (← c.self.view_is) at stand in
    let at : c.from.result ≡ offsets.icons =
    c.from.ensures ∙ ap (λ (ns : List ℕ). get_or ns 8 0) c.self.invariant.0 ∙ icons_read c.self.inside.counted offsets here in
    let reads = rw (sym at) at (pairs_reads c.self.inside.counted offsets.icons pairs list) in
    c.in_ok-name.ensures.answer list.entries reads ∙ looked_up-sorted pairs list.entries c.args.kind.now list.sorted
