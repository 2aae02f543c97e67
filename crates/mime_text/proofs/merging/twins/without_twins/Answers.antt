use Rattle.std.proofs.Common.{◌≡◌, ◌∙◌, ap, length, map, not}
use Rattle.std.proofs.lemmas.List.{length-map}
use Rattle.mime_base.specs.Kept.Twins.{is_twin, without_twins}
use Rattle.mime_text.specs.Merging.{picked}
use Rattle.mime_text.proofs.Merges.Twins.{picked-map}
use Rattle.mime_text.proofs.merging.twins.without_twins.Goals as goal

pub with_marked-requires : goal.with_marked-requires
with_marked-requires c =
    ap length c.in_ok-kept.ensures ∙ length-map c.deref.result.now (λ rule. not (is_twin c.deref.result.now rule))
    ∙ ap length c.deref.ensures.value

pub returns : goal.returns
unfolding without_twins
returns c =
    let rules = c.args.database.rules.items in
    let is : picked c.in_ok-kept.kept.items rules ≡ without_twins rules =
    ap (λ marks. picked marks rules)
    (c.in_ok-kept.ensures ∙ ap (λ xs. map (λ rule. not (is_twin xs rule)) xs) c.deref.ensures.value)
    ∙ picked-map (λ rule. not (is_twin rules rule)) rules in
    rw is at c.with_marked.ensures
