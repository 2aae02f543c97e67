use Rattle.std.proofs.Common.{◌≡◌, true, false, ap, sym, ◌∙◌, bytes_eq}
use Rattle.std.proofs.lemmas.List.{drop_all}
use Rattle.mime_base.specs.Database.PlainPairs.{plain_pairs}
use Rattle.mime_base.specs.Database.Subclass.{resolved}
use Rattle.mime_lookup.proofs.AncestryLemmas.PairSteps.{items_from, resolved-here, resolved-past, resolved-nil}
use Rattle.mime_lookup.proofs.pairs.unalias.Goals as goal

pub returns-then-is_same : goal.returns-then-is_same
returns-then-is_same c =
    let pair = c.pair-item.result in
    let from = items_from c.args.aliases.now c.loop-pair.pair-index pair c.loop-pair-test.true c.pair-item.is in
    let same : bytes_eq pair.name c.args.kind.now ≡ true = rw c.bytes.ensures.text at (sym c.is_same.ensures ∙ c.if-is_same.true) in
    c.bytes-then-is_same.ensures.text
    ∙ sym (c.loop-pair.invariant ∙ ap (λ ps. resolved (plain_pairs ps) c.args.kind.now) from ∙ resolved-here _ _ _ _ same)

pub loop-pair-preserved : goal.loop-pair-preserved
loop-pair-preserved c =
    let pair = c.pair-item.result in
    let from = items_from c.args.aliases.now c.loop-pair.pair-index pair c.loop-pair-test.true c.pair-item.is in
    let other : bytes_eq pair.name c.args.kind.now ≡ false = rw c.bytes.ensures.text at (sym c.is_same.ensures ∙ c.if-is_same.false) in
    c.loop-pair.invariant ∙ ap (λ ps. resolved (plain_pairs ps) c.args.kind.now) from ∙ resolved-past _ _ _ _ other

pub returns : goal.returns
returns c =
    sym (c.loop-pair.invariant
    ∙ ap (λ ps. resolved (plain_pairs ps) c.args.kind.now) (drop_all c.loop-pair.pair-index c.args.aliases.now c.loop-pair-test.false)
    ∙ resolved-nil c.args.kind.now)
