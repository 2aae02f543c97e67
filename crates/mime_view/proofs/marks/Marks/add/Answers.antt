use Rattle.std.proofs.Common.{◌≡◌, sym, ap, ◌∙◌}
use Rattle.mime_view.specs.Parents.{with_first, with_place}
use Rattle.mime_view.proofs.ParentsLemmas.AddedPlaces.{with_place-swapped}
use Rattle.mime_view.proofs.marks.Marks.add.Goals as goal

pub returns-in_ok-insert-in-Some-clause-added : goal.returns-in_ok-insert-in-Some-clause-added
returns-in_ok-insert-in-Some-clause-added c =
    let first = c.in-Some.field-0 in
    let keys = c.self.inside.others.keys in
    let old : with_place keys first ≡ c.args.self.now = ap (λ f. with_first f keys) (sym c.in-Some.is) ∙ c.self.view_is in
    ap (λ f. with_first f c.insert.new.self.keys) c.in-Some.is
    ∙ ap (λ xs. with_place xs first) c.in_ok-insert-in-Some.ensures.keys
    ∙ with_place-swapped first c.args.place keys
    ∙ ap (λ xs. with_place xs c.args.place) old
