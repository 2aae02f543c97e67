use Rattle.std.proofs.Common.{ℕ, List, Err, ap, ap₂, inl, inr, ◌∙◌}
use Rattle.std.proofs.lemmas.Result.{err_from_is_err_and}
use Rattle.mime_lookup.specs.Icons.{PlainIcons, generic_of_media, icons_by, name_or, with_hyphens}
use Rattle.mime_lookup.specs.StepFaults.{IsIconFault}
use Rattle.mime_lookup.proofs.LookUpLemmas.Askings.{opened_stops}
use Rattle.mime_lookup.proofs.StopLemmas.Cause.{caused}
use Rattle.mime_lookup.proofs.cached.icons.walk.Goals as goal

pub returns-in_err-kind-clause-stops : goal.returns-in_err-kind-clause-stops
returns-in_err-kind-clause-stops c =
    let p = err_from_is_err_and c.from_residual.result c.from_residual.ensures.1 in
    let cache = c.args.indexed.now in
    let e = c.in_err-kind.field-0.0 in
    let is : IsIconFault cache e = inr (inl c.in_err-kind.ensures.given) in
    rw (p.1, p.2) (opened_stops cache (IsIconFault cache) (IsIconFault cache) _ (Err e) c.budget-budget.ensures.opens is
    (caused (IsIconFault cache)) (λ b s small. absurd (c.in_err-kind.ensures.answer s.offsets b.aliases s.header s.aliases)))

pub returns-in_err-icon-clause-stops : goal.returns-in_err-icon-clause-stops
returns-in_err-icon-clause-stops c =
    let p = err_from_is_err_and c.from_residual-in_err-icon.result c.from_residual-in_err-icon.ensures.1 in
    let cache = c.args.indexed.now in
    let e = c.in_err-icon.field-0.0 in
    let why = rw c.cache-cache.ensures.cache at c.in_err-icon.ensures in
    let is : IsIconFault cache e = inr (inr (inl why.given)) in
    rw (p.1, p.2) (opened_stops cache (IsIconFault cache) (IsIconFault cache) _ (Err e) c.budget-budget.ensures.opens is
    (caused (IsIconFault cache)) (λ b s small. absurd (why.answer s.offsets b.icons s.header s.icons)))

pub returns-in_err-generic-clause-stops : goal.returns-in_err-generic-clause-stops
returns-in_err-generic-clause-stops c =
    let p = err_from_is_err_and c.from_residual-in_err-generic.result c.from_residual-in_err-generic.ensures.1 in
    let cache = c.args.indexed.now in
    let e = c.in_err-generic.field-0.0 in
    let why = rw c.cache-cache.ensures.cache at c.in_err-generic.ensures in
    let is : IsIconFault cache e = inr (inr (inr why.given)) in
    rw (p.1, p.2) (opened_stops cache (IsIconFault cache) (IsIconFault cache) _ (Err e) c.budget-budget.ensures.opens is
    (caused (IsIconFault cache)) (λ b s small. absurd (why.answer s.offsets b.generic_icons s.header s.generic_icons)))

pub returns-clause-answer : goal.returns-clause-answer
returns-clause-answer c = λ b s.
    let kind = c.in_ok-kind.kind.now in
    let icons = rw c.cache-cache.ensures.cache at c.in_ok-icon.ensures in
    let generic_icons = rw c.cache-cache.ensures.cache at c.in_ok-generic.ensures in
    let icon = ap (λ name. name_or name (with_hyphens kind)) (icons.answer s.offsets b.icons s.header s.icons) in
    let generic = ap (λ name. name_or name (generic_of_media kind))
    (generic_icons.answer s.offsets b.generic_icons s.header s.generic_icons) in
    let made : List ℕ → List ℕ → PlainIcons = λ icon generic. record { icon = icon; generic = generic } in
    ap₂ made (c.in_ok-icon-2.ensures ∙ icon) (c.in_ok-generic-2.ensures ∙ generic)
    ∙ ap (icons_by b) (c.in_ok-kind.ensures.answer s.offsets b.aliases s.header s.aliases)
