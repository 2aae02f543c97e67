use Rattle.std.proofs.Common.{◌≡◌, ◌∙◌, List, [], true, false, ap, get_or, sym}
use Rattle.std.proofs.lemmas.List.{drop_all, get_or_default}
use Rattle.std.specs.Prelude.{bytes_eq}
use Rattle.mime_base.specs.Database.Subclass.{resolved}
use Rattle.mime_load.specs.Lent.{plain_pairs}
use Rattle.mime_load.specs.declared.pair.LentPair.{LentPair}
use Rattle.mime_lookup.proofs.AncestryLemmas.PairSteps.{items_from, resolved-here, resolved-nil, resolved-past}
use Rattle.mime_tool.proofs.explain.aliases.unalias.Goals as goal

-- some pair
abbrev some : LentPair
some = record { name = record { ref_ptr = (0, 0); now = [] }; target = record { ref_ptr = (0, 0); now = [] } }

pub returns-then-is_same : goal.returns-then-is_same
returns-then-is_same c =
    let pairs = c.args.aliases.now in
    let i = c.loop-pair.pair-index in
    let pair = get_or pairs i some in
    let from = items_from pairs i pair c.loop-pair-test.true (get_or_default pairs i some pair c.loop-pair-test.true) in
    let same : bytes_eq pair.name.now c.args.kind.now ≡ true = sym c.is_same.ensures ∙ c.if-is_same.true in
    sym (c.loop-pair.invariant ∙ ap (λ (ps : List LentPair). resolved (plain_pairs ps) c.args.kind.now) from ∙ resolved-here _ _ _ _ same)

pub loop-pair-preserved : goal.loop-pair-preserved
loop-pair-preserved c =
    let pairs = c.args.aliases.now in
    let i = c.loop-pair.pair-index in
    let pair = get_or pairs i some in
    let from = items_from pairs i pair c.loop-pair-test.true (get_or_default pairs i some pair c.loop-pair-test.true) in
    let other : bytes_eq pair.name.now c.args.kind.now ≡ false = sym c.is_same.ensures ∙ c.if-is_same.false in
    c.loop-pair.invariant ∙ ap (λ (ps : List LentPair). resolved (plain_pairs ps) c.args.kind.now) from ∙ resolved-past _ _ _ _ other

pub returns : goal.returns
returns c =
    sym (c.loop-pair.invariant
    ∙ ap (λ (ps : List LentPair). resolved (plain_pairs ps) c.args.kind.now) (drop_all c.loop-pair.pair-index c.args.aliases.now c.loop-pair-test.false)
    ∙ resolved-nil c.args.kind.now)
