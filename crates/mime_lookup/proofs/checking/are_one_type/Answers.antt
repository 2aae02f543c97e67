use Rattle.std.proofs.Common.{suc, ◌&&◌, ap, sym, ◌∙◌, drop-cons, add-one, refl, bytes_eq, drop}
use Rattle.std.specs.List.{list_all}
use Rattle.std.proofs.lemmas.Bool.{and_left}
use Rattle.std.proofs.lemmas.List.{drop_all}
use Rattle.mime_lookup.specs.Ancestry.{kinds_of}
use Rattle.mime_lookup.specs.CheckingOrder.{are_one_type}
use Rattle.mime_lookup.proofs.checking.are_one_type.Goals as goal

pub returns-then-not-is_same : goal.returns-then-not-is_same
returns-then-not-is_same c =
    let from = drop-cons c.in-Some.more.now c.loop-kind.kind-index _ c.loop-kind-test.true in
    sym (ap (λ ks. are_one_type (kinds_of ks)) c.in-Some.ensures.cases.0 ∙ c.loop-kind.invariant
    ∙ ap (λ ks. list_all (bytes_eq c.in-Some.first.now.now) (kinds_of ks)) from
    ∙ and_left _ _ (sym c.is_same.ensures ∙ c.if-not-is_same.true))

pub loop-kind-preserved : goal.loop-kind-preserved
loop-kind-preserved c =
    let from = drop-cons c.in-Some.more.now c.loop-kind.kind-index _ c.loop-kind-test.true in
    c.loop-kind.invariant
    ∙ ap (λ ks. list_all (bytes_eq c.in-Some.first.now.now) (kinds_of ks)) from
    ∙ ap (λ b. b && list_all (bytes_eq c.in-Some.first.now.now) (kinds_of (drop (suc c.loop-kind.kind-index) c.in-Some.more.now)))
    (sym c.is_same.ensures ∙ c.if-not-is_same.false)
    ∙ rw add-one refl

pub returns : goal.returns
returns c =
    sym (ap (λ ks. are_one_type (kinds_of ks)) c.in-Some.ensures.cases.0 ∙ c.loop-kind.invariant
    ∙ ap (λ ks. list_all (bytes_eq c.in-Some.first.now.now) (kinds_of ks))
    (drop_all c.loop-kind.kind-index c.in-Some.more.now c.loop-kind-test.false))
