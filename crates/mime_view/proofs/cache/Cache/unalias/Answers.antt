use Rattle.std.proofs.Common.{◌≡◌, ℕ, List, get_or, ◌∙◌, sym, ap}
use Rattle.mime_view.proofs.ListLemmas.Headers.{aliases_read}
use Rattle.mime_view.proofs.ListLemmas.Spelled.{found_or, looked_up-sorted, pairs_reads, resolved-looked_up}
use Rattle.mime_view.proofs.cache.Cache.unalias.Goals as goal

pub returns-in_err-name-clause-answer : goal.returns-in_err-name-clause-answer
returns-in_err-name-clause-answer c = λ offsets pairs header stand.
    let here = rw (← c.self.view_is) at header in
    let list = rw (← c.self.view_is) at stand in
    let at : c.from.result ≡ offsets.aliases =
    c.from.ensures ∙ ap (λ (ns : List ℕ). get_or ns 1 0) c.self.invariant.0 ∙ aliases_read c.self.inside.counted offsets here in
    let reads = rw (sym at) at (pairs_reads c.self.inside.counted offsets.aliases pairs list) in
    absurd (c.in_err-name.ensures.answer list.entries reads)

pub returns-in-Some-clause-answer : goal.returns-in-Some-clause-answer
returns-in-Some-clause-answer c = λ offsets pairs header stand.
    let here = rw (← c.self.view_is) at header in
    let list = rw (← c.self.view_is) at stand in
    let at : c.from.result ≡ offsets.aliases =
    c.from.ensures ∙ ap (λ (ns : List ℕ). get_or ns 1 0) c.self.invariant.0 ∙ aliases_read c.self.inside.counted offsets here in
    let reads = rw (sym at) at (pairs_reads c.self.inside.counted offsets.aliases pairs list) in
    let read = c.in_ok-name.ensures.answer list.entries reads ∙ looked_up-sorted pairs list.entries c.args.kind.now list.sorted in
    let found = rw c.in-Some.is at read in
    sym (resolved-looked_up pairs c.args.kind.now ∙ ap (λ given. found_or given c.args.kind.now) (sym found))

pub returns-in-None-clause-answer : goal.returns-in-None-clause-answer
returns-in-None-clause-answer c = λ offsets pairs header stand.
    let here = rw (← c.self.view_is) at header in
    let list = rw (← c.self.view_is) at stand in
    let at : c.from.result ≡ offsets.aliases =
    c.from.ensures ∙ ap (λ (ns : List ℕ). get_or ns 1 0) c.self.invariant.0 ∙ aliases_read c.self.inside.counted offsets here in
    let reads = rw (sym at) at (pairs_reads c.self.inside.counted offsets.aliases pairs list) in
    let read = c.in_ok-name.ensures.answer list.entries reads ∙ looked_up-sorted pairs list.entries c.args.kind.now list.sorted in
    let missed = rw c.in-None.is at read in
    sym (resolved-looked_up pairs c.args.kind.now ∙ ap (λ given. found_or given c.args.kind.now) (sym missed))
