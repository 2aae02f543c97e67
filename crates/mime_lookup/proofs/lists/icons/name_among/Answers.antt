use Rattle.std.proofs.Common.{◌≡◌, ◌+◌, Some, true, false, ap, sym, ◌∙◌, bytes_eq, drop}
use Rattle.std.proofs.lemmas.List.{drop_all}
use Rattle.mime_base.specs.Database.PlainPairs.{plain_icons}
use Rattle.mime_view.specs.Pairs.{looked_up}
use Rattle.mime_lookup.proofs.AncestryLemmas.PairSteps.{items_from, looked_up-here, looked_up-past}
use Rattle.mime_lookup.proofs.lists.icons.name_among.Goals as goal

pub returns-then-is_same : goal.returns-then-is_same
returns-then-is_same c =
    let icon = c.icon-item.result in
    let rest = plain_icons (drop (c.loop-icon.icon-index + 1) c.args.icons.now) in
    let from = items_from c.args.icons.now c.loop-icon.icon-index icon c.loop-icon-test.true c.icon-item.is in
    let same : bytes_eq icon.kind c.args.kind.now ≡ true = rw c.bytes.ensures.text at (sym c.is_same.ensures ∙ c.if-is_same.true) in
    ap Some c.bytes-then-is_same.ensures.text
    ∙ sym (c.loop-icon.invariant ∙ ap (λ is. looked_up (plain_icons is) c.args.kind.now) from
    ∙ looked_up-here icon.kind icon.name c.args.kind.now rest same)

pub loop-icon-preserved : goal.loop-icon-preserved
loop-icon-preserved c =
    let icon = c.icon-item.result in
    let rest = plain_icons (drop (c.loop-icon.icon-index + 1) c.args.icons.now) in
    let from = items_from c.args.icons.now c.loop-icon.icon-index icon c.loop-icon-test.true c.icon-item.is in
    let other : bytes_eq icon.kind c.args.kind.now ≡ false = rw c.bytes.ensures.text at (sym c.is_same.ensures ∙ c.if-is_same.false) in
    c.loop-icon.invariant ∙ ap (λ is. looked_up (plain_icons is) c.args.kind.now) from
    ∙ looked_up-past icon.kind icon.name c.args.kind.now rest other

pub returns : goal.returns
returns c =
    sym (c.loop-icon.invariant
    ∙ ap (λ is. looked_up (plain_icons is) c.args.kind.now) (drop_all c.loop-icon.icon-index c.args.icons.now c.loop-icon-test.false))
