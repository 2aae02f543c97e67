use Rattle.std.proofs.Common.{ℕ, List, ap, ap₂, ◌∙◌}
use Rattle.mime_base.specs.Database.{plain_database}
use Rattle.mime_lookup.specs.Icons.{PlainIcons, generic_of_media, icons_by, name_or, with_hyphens}
use Rattle.mime_lookup.proofs.lists.icons.icon_of_plain.Goals as goal

pub returns-clause-answer : goal.returns-clause-answer
returns-clause-answer c =
    let kind = c.unalias-kind.result.now in
    let icon = rw c.deref-2.ensures.value at c.name_among.ensures in
    let generic = rw c.deref-3.ensures.value at c.name_among-2.ensures in
    let made : List ℕ → List ℕ → PlainIcons = λ icon generic. record { icon = icon; generic = generic } in
    ap₂ made (c.in_ok-icon.ensures ∙ ap (λ name. name_or name (with_hyphens kind)) icon)
    (c.in_ok-generic.ensures ∙ ap (λ name. name_or name (generic_of_media kind)) generic)
    ∙ ap (icons_by (plain_database c.args.database.now)) (rw (c.deref.ensures.value, c.bytes.ensures.text) at c.unalias-kind.ensures)
