use Rattle.std.proofs.Common.{ℕ, List, ap, ap₂, sym, ◌∙◌}
use Rattle.mime_lookup.specs.Icons.{PlainIcons, generic_of_media, icons_by, name_or, with_hyphens}
use Rattle.mime_lookup.proofs.SpellingLemmas.NamedPairs.{found_name}
use Rattle.mime_lookup.proofs.icon_index.IconIndex.names_of.Goals as goal

pub returns : goal.returns
returns c = λ b are.
    let kind = c.target_of-kind.result.now in
    let icon = ap (λ name. name_or name (with_hyphens kind)) (ap found_name c.value_of.ensures ∙ sym (are.icons kind)) in
    let generic =
    ap (λ name. name_or name (generic_of_media kind)) (ap found_name c.value_of-2.ensures ∙ sym (are.generic_icons kind)) in
    let made : List ℕ → List ℕ → PlainIcons = λ icon generic. record { icon = icon; generic = generic } in
    ap₂ made (c.in_ok-icon.ensures ∙ icon) (c.in_ok-generic.ensures ∙ generic)
    ∙ ap (icons_by b) (c.target_of-kind.ensures ∙ sym (are.aliases c.args.kind.now))
