use Rattle.std.proofs.Common.{◌+◌, ◌-◌, ◌≡◌, get_or, ap, ◌∙◌, subst, arith, drop}
use Rattle.mime_names.specs.Tree.{AddsText, next_of, spelled, symbol}
use Rattle.mime_names.proofs.TreeLemmas.{adds-more, symbol-below}
use Rattle.mime_names.proofs.tree.grow.Goals as goal

pub new_node-requires-clause-none : goal.new_node-requires-clause-none
new_node-requires-clause-none c =
    ap (next_of c.loop-left.tree c.loop-left.at) c.symbol_of.ensures.symbol
    ∙ c.loop-left.invariant.last (omega (arith, c.loop-left-test.true))

pub returns-then-left-text-clause-added : goal.returns-then-left-text-clause-added
returns-then-left-text-clause-added c =
    let left = c.loop-left.left - 1 in
    let here : c.loop-left.left ≡ left + 1 = omega (arith, c.loop-left-test.true) in
    adds-more c.args.tree.now c.loop-left.tree c.new_node.new.tree c.args.text.now left c.loop-left.at _ c.in_ok-next.next
    (omega (arith, here, c.loop-left.invariant.within)) c.symbol_of.ensures.below c.symbol_of.ensures.symbol
    (subst (λ n. AddsText c.args.tree.now (drop n (spelled c.args.text.now)) c.loop-left.tree c.loop-left.at) here c.loop-left.invariant.added)
    c.in_ok-next.ensures.steps

pub returns-then-left-text-clause-fresh : goal.returns-then-left-text-clause-fresh
returns-then-left-text-clause-fresh c = λ some.
    omega (arith, c.in_ok-next.ensures.made.past, c.loop-left.invariant.added.grows.many)

pub loop-left-preserved : goal.loop-left-preserved
loop-left-preserved c =
    let left = c.loop-left.left - 1 in
    let here : c.loop-left.left ≡ left + 1 = omega (arith, c.loop-left-test.true) in
    record {
      within = omega (arith, c.loop-left.invariant.within);
      added =
          adds-more c.args.tree.now c.loop-left.tree c.new_node.new.tree c.args.text.now left c.loop-left.at _ c.in_ok-next.next
          (omega (arith, here, c.loop-left.invariant.within)) c.symbol_of.ensures.below c.symbol_of.ensures.symbol
          (subst (λ n. AddsText c.args.tree.now (drop n (spelled c.args.text.now)) c.loop-left.tree c.loop-left.at) here c.loop-left.invariant.added)
          c.in_ok-next.ensures.steps;
      last = λ some. c.in_ok-next.ensures.made.last (symbol (get_or c.args.text.now (left - 1) 0))
          (symbol-below (get_or c.args.text.now (left - 1) 0));
    }
