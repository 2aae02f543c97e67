use Rattle.std.proofs.Common.{◌≡◌, ◌+◌, ◌++◌, ◌∷◌, ◌∙◌, [], false, true, ap, bytes_eq, drop, map, sym}
use Rattle.std.proofs.lemmas.List.{drop_all}
use Rattle.std.specs.Option.{option_to_list}
use Rattle.mime_base.specs.Database.PlainPairs.{plain_pairs}
use Rattle.mime_base.specs.Database.Subclass.{above, parents, resolved}
use Rattle.mime_lookup.specs.Ancestry.{kinds_of}
use Rattle.mime_lookup.proofs.AncestryLemmas.OneParent.{parent_found, parent_passed}
use Rattle.mime_lookup.proofs.AncestryLemmas.PairSteps.{items_from, parents-nil}
use Rattle.mime_lookup.proofs.lists.subclass.above_among.Goals.{then-is_same+else-is_some, else-is_same}
use Rattle.mime_lookup.proofs.lists.subclass.above_among.Goals as goal

pub loop-pair-preserved : goal.loop-pair-preserved
loop-pair-preserved c =
    let kind = c.args.kind.now in
    let pair = c.pair-item.result in
    let all = parents (plain_pairs c.args.parents.now) kind in
    let rest = plain_pairs (drop (c.loop-pair.pair-index + 1) c.args.parents.now) in
    let from = items_from c.args.parents.now c.loop-pair.pair-index pair c.loop-pair-test.true c.pair-item.is in
    let left = c.loop-pair.invariant ∙ ap (λ ps. kinds_of (option_to_list c.loop-pair.found) ++ parents (plain_pairs ps) kind) from in
    elim c.if-is_same.branch [
      | then-is_same+else-is_some w ↦
          let same : bytes_eq pair.name kind ≡ true = rw c.bytes.ensures.text at (sym c.is_same.ensures ∙ w.if-is_same.true) in
          parent_found all pair.name pair.target kind rest c.loop-pair.found c.if-is_same.found w.bytes-then-is_same.result left
          (sym w.is_some.ensures ∙ w.if-is_some.false) same w.bytes-then-is_same.ensures.text w.found-is
      | else-is_same w ↦
          let other : bytes_eq pair.name kind ≡ false = rw c.bytes.ensures.text at (sym c.is_same.ensures ∙ w.if-is_same.false) in
          parent_passed all pair.name pair.target kind rest c.loop-pair.found c.if-is_same.found left other w.found-is
    ]

pub returns-in-Some : goal.returns-in-Some
unfolding above
returns-in-Some c =
    let kind = c.args.kind.now in
    let step = resolved (plain_pairs c.args.aliases.now) in
    let none = ap (λ ps. parents (plain_pairs ps) kind) (drop_all c.loop-pair.pair-index c.args.parents.now c.loop-pair-test.false)
    ∙ parents-nil kind in
    let all : parents (plain_pairs c.args.parents.now) kind ≡ c.in-Some.parent.now ∷ [] =
    rw (c.in-Some.is, none) at c.loop-pair.invariant in
    ap (map step) all ∙ ap (λ t. t ∷ []) (sym c.unalias.ensures)

pub returns-in-None : goal.returns-in-None
unfolding above
returns-in-None c =
    let kind = c.args.kind.now in
    let none = ap (λ ps. parents (plain_pairs ps) kind) (drop_all c.loop-pair.pair-index c.args.parents.now c.loop-pair-test.false)
    ∙ parents-nil kind in
    let all : parents (plain_pairs c.args.parents.now) kind ≡ [] = rw (c.in-None.is, none) at c.loop-pair.invariant in
    ap (map (resolved (plain_pairs c.args.aliases.now))) all
