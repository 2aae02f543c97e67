use Rattle.std.proofs.Common.{ℕ, List, length, ◌++◌, map, arith, inl, inr, refl, rules, sym, ap, ◌∙◌, ⊎_elim}
use Rattle.mime_base.specs.declared.database.rule.GlobRule.{GlobRule}
use Rattle.mime_view.specs.Listing.{listed_rule}
use Rattle.mime_view.specs.Spending.{per_record}
use Rattle.mime_view.proofs.CostLemmas.Costs.{spends_then}
use Rattle.mime_view.proofs.ListingLemmas.Adding.{adds_here, adds_stop, adds_then}
use Rattle.mime_view.proofs.ListingLemmas.SiblingFaults.{among, below}
use Rattle.mime_view.proofs.SuffixTreeLemmas.SiblingNodes.{below_read, leaf_read, node_read, some_node}
use Rattle.mime_view.proofs.SuffixTreeLemmas.SiblingRows.{next}
use Rattle.mime_view.proofs.SuffixTreeLemmas.SiblingSteps.{all_given, next_stops, node_gives, node_stops, stops_there}
use Rattle.mime_view.proofs.ListingLemmas.ListedSiblings.{lists_all, lists_leaf, lists_more, lists_node, lists_wide}
use Rattle.mime_view.proofs.rules.tree.+siblings.Goals as goal

pub add_sibling-returns-in_err-row-clause-answer : goal.add_sibling-returns-in_err-row-clause-answer
add_sibling-returns-in_err-row-clause-answer t c = λ tree alone reads.
    stops_there tree _ _ c.from_residual.result c.from_residual.ensures.1 alone (omega (arith, c.in_err-row.ensures.row.1))
    (λ enough. absurd (omega (arith, some_node tree alone, c.in_err-row.ensures.row.1, enough)))

pub add_sibling-returns-in_err-add_leaf-clause-answer : goal.add_sibling-returns-in_err-add_leaf-clause-answer
add_sibling-returns-in_err-add_leaf-clause-answer t c = λ tree alone reads.
    let row = c.in_ok-row.ensures.row in
    let leaf = leaf_read c.args.source.now.counted.now c.args.at c.args.ending.now tree alone reads (sym row.first ∙ c.if-row-eq0.true) in
    stops_there tree _ _ c.from_residual-in_err-add_leaf.result c.from_residual-in_err-add_leaf.ensures.1 alone (omega (arith, row.taken))
    (λ enough. c.in_err-add_leaf.ensures.answer c.args.at leaf.rule row.second leaf.reads)

pub add_sibling-returns-then-row-eq0-clause-answer : goal.add_sibling-returns-then-row-eq0-clause-answer
add_sibling-returns-then-row-eq0-clause-answer t c = λ tree alone reads.
    let row = c.in_ok-row.ensures.row in
    let leaf = leaf_read c.args.source.now.counted.now c.args.at c.args.ending.now tree alone reads (sym row.first ∙ c.if-row-eq0.true) in
    record {
      answer = c.in_ok-add_leaf.ensures.answer c.args.at leaf.rule row.second leaf.reads row.third
          ∙ ap (λ (xs : List GlobRule). c.args.listing.now ++ map listed_rule xs) (sym leaf.alone);
      need = search rules;
      most = omega (arith, row.taken, some_node tree alone);
    }

pub add_sibling-returns-then-row-gt255-clause-answer : goal.add_sibling-returns-then-row-gt255-clause-answer
add_sibling-returns-then-row-gt255-clause-answer t c = λ tree alone reads.
    let node = node_read c.args.source.now.counted.now c.args.at c.args.ending.now tree alone reads (omega (arith, c.in_ok-row.ensures.row.first)) in
    absurd (omega (arith, c.in_ok-row.ensures.row.first, node.byte))

pub add_sibling-returns-then-length-eq-DEEPEST-clause-answer : goal.add_sibling-returns-then-length-eq-DEEPEST-clause-answer
add_sibling-returns-then-length-eq-DEEPEST-clause-answer t c = λ tree alone reads.
    let node = node_read c.args.source.now.counted.now c.args.at c.args.ending.now tree alone reads (omega (arith, c.in_ok-row.ensures.row.first)) in
    absurd (omega (arith, node.depth))

pub add_sibling-returns-in_err-check_block-clause-answer : goal.add_sibling-returns-in_err-check_block-clause-answer
add_sibling-returns-in_err-check_block-clause-answer t c = λ tree alone reads.
    let node = node_read c.args.source.now.counted.now c.args.at c.args.ending.now tree alone reads (omega (arith, c.in_ok-row.ensures.row.first)) in
    let outside = c.in_err-check_block.ensures.fault in
    absurd (omega (arith, node.block.inside, outside.some, outside.outside, c.in_ok-row.ensures.row.second, c.in_ok-row.ensures.row.third))

pub add_sibling-returns-in_err-grow-clause-answer : goal.add_sibling-returns-in_err-grow-clause-answer
add_sibling-returns-in_err-grow-clause-answer t c = λ tree alone reads.
    stops_there tree _ _ c.from_residual-in_err-grow.result c.from_residual-in_err-grow.ensures.1 alone
    (omega (arith, c.in_ok-row.ensures.row.taken)) (λ enough. c.in_err-grow.ensures.fault)

pub add_sibling-returns-in_err-add_siblings-clause-answer : goal.add_sibling-returns-in_err-add_siblings-clause-answer
add_sibling-returns-in_err-add_siblings-clause-answer t c = λ tree alone reads.
    let row = c.in_ok-row.ensures.row in
    let n = below_read c.args.ending.now tree row alone reads (omega arith) c.from-count.ensures c.from-first.ensures c.in_ok-grow.ensures.grown in
    node_stops c.from_residual-in_err-add_siblings.result c.from_residual-in_err-add_siblings.ensures.1 n row.taken
    (c.in_err-add_siblings.ensures.answer n.below n.wide n.reads)

pub add_sibling-returns-clause-answer : goal.add_sibling-returns-clause-answer
add_sibling-returns-clause-answer t c = λ tree alone reads.
    let row = c.in_ok-row.ensures.row in
    let n = below_read c.args.ending.now tree row alone reads (omega arith) c.from-count.ensures c.from-first.ensures c.in_ok-grow.ensures.grown in
    node_gives c.args.listing.now c.add_siblings.new.listing n row.taken (c.in_ok-add_siblings.ensures.answer n.below n.wide n.reads)

pub add_siblings-returns-in_err-add_sibling-clause-answer : goal.add_siblings-returns-in_err-add_sibling-clause-answer
add_siblings-returns-in_err-add_sibling-clause-answer t c = λ tree sibling_count reads.
    let n = next c.args.source.now.counted.now c.args.first c.args.count c.args.ending.now tree _ _ c.loop-i.i _ _ c.loop-i-test.true
    (c.loop-i.invariant.left tree sibling_count reads) in
    next_stops c.from_residual.result c.from_residual.ensures.1 n
    (c.in_err-add_sibling.ensures.answer n.one n.alone (rw c.loop-i.invariant.ending n.reads))

pub add_siblings-loop-i-preserved : goal.add_siblings-loop-i-preserved
add_siblings-loop-i-preserved t c = record {
  left = λ tree sibling_count reads.
      let n = next c.args.source.now.counted.now c.args.first c.args.count c.args.ending.now tree _ _ c.loop-i.i _ _
      c.loop-i-test.true (c.loop-i.invariant.left tree sibling_count reads) in
      let given = c.in_ok-add_sibling.ensures.answer n.one n.alone (rw c.loop-i.invariant.ending n.reads) in
      n.later _ _ given.answer given.most;
  ending = c.in_ok-add_sibling.ensures.ending_stays ∙ c.loop-i.invariant.ending;
  lists = lists_more c.loop-i.i c.loop-i.invariant.ending c.loop-i.invariant.lists c.in_ok-add_sibling.ensures.lists;
  adds = adds_then c.loop-i.invariant.adds c.in_ok-add_sibling.ensures.adds;
}

pub add_siblings-returns-clause-answer : goal.add_siblings-returns-clause-answer
add_siblings-returns-clause-answer t c = λ tree sibling_count reads.
    all_given c.loop-i-test.false (c.loop-i.invariant.left tree sibling_count reads)

pub add_sibling-returns-in_err-row-clause-adds : goal.add_sibling-returns-in_err-row-clause-adds
add_sibling-returns-in_err-row-clause-adds t c =
    adds_here c.from_residual.result c.from_residual.ensures.1 (λ all. all) (inr (inr (inr (inl (search rules))))) (search rules)

pub add_sibling-returns-in_err-add_leaf-clause-adds : goal.add_sibling-returns-in_err-add_leaf-clause-adds
add_sibling-returns-in_err-add_leaf-clause-adds t c =
    adds_here c.from_residual-in_err-add_leaf.result c.from_residual-in_err-add_leaf.ensures.1 c.in_err-add_leaf.ensures.texts
    (⊎_elim (λ kind. inr (inr (inl (sym c.in_ok-row.ensures.row.first ∙ c.if-row-eq0.true, rw c.in_ok-row.ensures.row.second at kind))))
    (λ memory. inr (inr (inr (inr memory)))) c.in_err-add_leaf.ensures.fault) (search rules)

pub add_sibling-returns-then-length-eq-DEEPEST-clause-adds : goal.add_sibling-returns-then-length-eq-DEEPEST-clause-adds
add_sibling-returns-then-length-eq-DEEPEST-clause-adds t c =
    let first = c.in_ok-row.ensures.row.first in
    adds_here _ refl (λ all. all)
    (inr (inl (record { some = omega (arith, first); byte = omega (arith, first) }, omega arith, refl))) (search rules)

pub add_sibling-returns-in_err-check_block-clause-adds : goal.add_sibling-returns-in_err-check_block-clause-adds
add_sibling-returns-in_err-check_block-clause-adds t c =
    let row = c.in_ok-row.ensures.row in
    let block = rw (c.from-first.ensures ∙ row.third, c.from-count.ensures ∙ row.second) at c.in_err-check_block.ensures.fault in
    adds_here c.from_residual-in_err-check_block.result c.from_residual-in_err-check_block.ensures.1 (λ all. all)
    (inl (record { some = omega (arith, row.first); byte = omega (arith, row.first) }, block)) (search rules)

pub add_sibling-returns-in_err-grow-clause-adds : goal.add_sibling-returns-in_err-grow-clause-adds
add_sibling-returns-in_err-grow-clause-adds t c =
    adds_here c.from_residual-in_err-grow.result c.from_residual-in_err-grow.ensures.1 (λ all. all)
    (inr (inr (inr (inr c.in_err-grow.ensures.fault)))) (search rules)

pub add_sibling-returns-in_err-add_siblings-clause-adds : goal.add_sibling-returns-in_err-add_siblings-clause-adds
add_sibling-returns-in_err-add_siblings-clause-adds t c =
    let adds = c.in_err-add_siblings.ensures.adds in
    let row = c.in_ok-row.ensures.row in
    adds_stop _ c.from_residual-in_err-add_siblings.result c.from_residual-in_err-add_siblings.ensures.1 adds.texts
    (below (c.from-first.ensures ∙ row.third) (c.from-count.ensures ∙ row.second) (ap (λ (e : List ℕ). length e) c.in_ok-grow.ensures.grown)
    (record { some = omega (arith, row.first); byte = omega (arith, row.first) }) adds.fault) (search rules)

pub add_siblings-returns-in_err-add_sibling-clause-adds : goal.add_siblings-returns-in_err-add_sibling-clause-adds
add_siblings-returns-in_err-add_sibling-clause-adds t c =
    let adds = c.in_err-add_sibling.ensures.adds in
    adds_stop _ c.from_residual.result c.from_residual.ensures.1 (λ all. adds.texts (c.loop-i.invariant.adds.texts all))
    (among c.loop-i.i c.loop-i-test.true (ap (λ (e : List ℕ). length e) c.loop-i.invariant.ending) adds.fault)
    (spends_then (per_record 512) 0 0 0 0 _ _ _ c.loop-i.invariant.adds.cost adds.cost)

pub add_sibling-returns-then-row-eq0-clause-lists : goal.add_sibling-returns-then-row-eq0-clause-lists
add_sibling-returns-then-row-eq0-clause-lists t c =
    lists_leaf c.in_ok-row.ensures.row c.if-row-eq0.true (c.in_ok-add_leaf.ensures.sources c.args.at)

pub add_sibling-returns-then-row-gt255-clause-lists : goal.add_sibling-returns-then-row-gt255-clause-lists
add_sibling-returns-then-row-gt255-clause-lists t c = lists_wide c.in_ok-row.ensures.row c.if-row-gt255.true

pub add_sibling-returns-clause-lists : goal.add_sibling-returns-clause-lists
add_sibling-returns-clause-lists t c =
    lists_node c.in_ok-row.ensures.row (omega arith) (omega arith) c.in_ok-check_block.ensures.lies (omega arith) c.from-first.ensures
    c.from-count.ensures c.in_ok-grow.ensures.grown c.in_ok-add_siblings.ensures.lists

pub add_siblings-returns-clause-lists : goal.add_siblings-returns-clause-lists
add_siblings-returns-clause-lists t c = lists_all (omega (arith, c.loop-i-test.false, c.loop-i.auto)) c.loop-i.invariant.lists
