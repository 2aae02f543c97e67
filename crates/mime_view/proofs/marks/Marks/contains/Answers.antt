use Rattle.std.proofs.Common.{◌≡◌, sym, ap, ◌∙◌}
use Rattle.std.proofs.lemmas.Bool.{eq-eqb}
use Rattle.mime_view.specs.Parents.{has_place, with_first, with_place}
use Rattle.mime_view.proofs.ParentsLemmas.AddedPlaces.{has_place-added, has_place-others}
use Rattle.mime_view.proofs.marks.Marks.contains.Goals as goal

pub returns-then-place-first : goal.returns-then-place-first
returns-then-place-first c =
    let first = c.in-Some.first in
    let keys = c.self.inside.others.keys in
    let all : with_place keys first ≡ c.args.self.now = ap (λ f. with_first f keys) (sym c.in-Some.is) ∙ c.self.view_is in
    eq-eqb c.args.place first c.if-place-first.true
    ∙ sym (has_place-added first c.args.place keys c.if-place-first.true)
    ∙ ap (λ xs. has_place xs c.args.place) all

pub returns-else-place-first : goal.returns-else-place-first
returns-else-place-first c =
    let first = c.in-Some.first in
    let keys = c.self.inside.others.keys in
    let all : with_place keys first ≡ c.args.self.now = ap (λ f. with_first f keys) (sym c.in-Some.is) ∙ c.self.view_is in
    c.contains.ensures
    ∙ sym (has_place-others first c.args.place keys c.if-place-first.false)
    ∙ ap (λ xs. has_place xs c.args.place) all
