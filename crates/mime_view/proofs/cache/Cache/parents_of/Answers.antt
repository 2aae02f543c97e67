use Rattle.std.proofs.Common.{◌≡◌, ℕ, Bool, List, length, get_or, ap, subst, ◌∙◌}
use Rattle.mime_base.specs.Cache.Bytes.{field}
use Rattle.mime_view.specs.Parents.{IsGiven, unmarked_parents}
use Rattle.mime_view.specs.Spending.{Gives, spending_of}
use Rattle.mime_view.proofs.ParentsLemmas.ParentLists.{marked_named, parents_named, taken_named}
use Rattle.mime_view.proofs.cache.Cache.parents_of.Goals as goal

pub returns-clause-answer : goal.returns-clause-answer
returns-clause-answer c = λ offsets pairs header stand.
    let number : c.from-at.result ≡ field c.self.inside.counted 0 2 =
    c.from-at.ensures ∙ ap (λ (ns : List ℕ). get_or ns 2 0) c.self.invariant.0 in
    let reads = parents_named c.args.self.now c.self.inside.counted c.from-at.result offsets pairs c.self.view_is number header stand in
    let marked = marked_named c.args.self.now c.self.inside.counted c.from-at.result c.args.marks.now c.args.kind.now
    c.self.view_is number in
    subst (λ (m : Bool). Gives (IsGiven pairs stand.kinds m c.args.kind.now) (length (unmarked_parents pairs m c.args.kind.now))
    (spending_of c.args.meter.now c.args.budget.now) c.parents_of-found.new.spending c.parents_of-found.result) marked
    (c.parents_of-found.ensures.answer pairs stand.kinds reads)

pub returns-clause-taken : goal.returns-clause-taken
returns-clause-taken c =
    taken_named c.args.self.now c.self.inside.counted c.from-at.result _ _ _ _ _ c.parents_of-found.result c.self.view_is
    (c.from-at.ensures ∙ ap (λ (ns : List ℕ). get_or ns 2 0) c.self.invariant.0) c.parents_of-found.ensures.taken
