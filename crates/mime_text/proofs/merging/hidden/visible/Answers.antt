use Rattle.std.proofs.Common.{◌≡◌, ◌∙◌, ap, length, map, not}
use Rattle.std.proofs.lemmas.List.{length-map}
use Rattle.mime_base.specs.Kept.Hidden.{is_hidden, visible}
use Rattle.mime_text.specs.Merging.{picked}
use Rattle.mime_text.proofs.Merges.Twins.{picked-map}
use Rattle.mime_text.proofs.merging.hidden.visible.Goals as goal

pub with_marked-requires : goal.with_marked-requires
with_marked-requires c =
    ap length c.in_ok-shown.ensures ∙ length-map c.deref.result.now (λ rule. not (is_hidden c.deref.result.now rule))
    ∙ ap length c.deref.ensures.value

pub returns : goal.returns
unfolding visible
returns c =
    let rules = c.args.database.rules.items in
    let is : picked c.in_ok-shown.shown.items rules ≡ visible rules =
    ap (λ marks. picked marks rules)
    (c.in_ok-shown.ensures ∙ ap (λ xs. map (λ rule. not (is_hidden xs rule)) xs) c.deref.ensures.value)
    ∙ picked-map (λ rule. not (is_hidden rules rule)) rules in
    rw is at c.with_marked.ensures
