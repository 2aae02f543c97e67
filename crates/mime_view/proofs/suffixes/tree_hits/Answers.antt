use Rattle.std.proofs.Common.{ℕ, ◌-◌, get_or, length, sym, refl, rules, arith, ◌∙◌, ap}
use Rattle.mime_base.specs.Cache.Bytes.{field}
use Rattle.mime_view.proofs.HitsLemmas.Parts.{searches_within}
use Rattle.mime_view.proofs.HitsLemmas.Steps.{finds_metered, searches_err, searches_ok, searches_then}
use Rattle.mime_view.proofs.SuffixTreeLemmas.TreeBegins.{nothing_sought}
use Rattle.mime_view.proofs.SuffixTreeLemmas.TreePaths.{all_left, next, none_left}
use Rattle.mime_view.proofs.SuffixTreeLemmas.TreeStands.{head_inside, roots_inside}
use Rattle.mime_view.proofs.SuffixTreeLemmas.WalkedParts.{leads_on, leads_roots, step_within}
use Rattle.mime_view.proofs.suffixes.tree_hits.Goals as goal

pub returns-in_err-count-clause-finds : goal.returns-in_err-count-clause-finds
returns-in_err-count-clause-finds c = λ rules stand.
    let inside = head_inside c.args.query.now.counted.now c.args.at rules stand in
    absurd (omega (arith, inside, c.from.ensures, c.in_err-count.ensures.fault.0))

pub returns-then-not-seeks_character-clause-finds : goal.returns-then-not-seeks_character-clause-finds
returns-then-not-seeks_character-clause-finds c = λ rules stand. record {
  answer = λ fits. nothing_sought c.args.query.now.counted.now c.args.at c.args.query.now.case rules c.args.query.now.key.now _
      (c.seeks_character.ensures.none c.if-not-seeks_character.true) stand;
  need = λ enough. tt;
  most = omega arith;
}

pub returns-in_err-block-clause-finds : goal.returns-in_err-block-clause-finds
returns-in_err-block-clause-finds c = λ rules stand.
    let here = rw (sym c.from.ensures) at stand in
    let lies = roots_inside c.args.query.now.counted.now c.from.result rules here in
    let count = ap (λ xs. get_or xs 0 0) c.in_ok-count.ensures.numbers.1 in
    let first = ap (λ xs. get_or xs 1 0) c.in_ok-count.ensures.numbers.1 in
    let fault = c.in_err-block.ensures.fault in
    absurd (omega (arith, lies.inside (omega (arith, count, fault.some)), count, first, fault.outside))

pub loop-depth-init : goal.loop-depth-init
loop-depth-init c = record {
  left = λ rules stand.
      let here = rw (sym c.from.ensures) at stand in
      let begun = all_left c.args.query.now.counted.now c.from.result c.args.query.now.case rules c.args.query.now.key.now
      c.in_ok-block.block _
      (c.in_ok-block.ensures.block.0 ∙ ap (λ xs. get_or xs 1 0) c.in_ok-count.ensures.numbers.1)
      (c.in_ok-block.ensures.block.1 ∙ ap (λ xs. get_or xs 0 0) c.in_ok-count.ensures.numbers.1) here in
      record {
        tree = begun.tree;
        reads = begun.reads;
        suffixes = begun.suffixes;
        whole = λ new result walk. finds_metered c.cards.new.meter (begun.whole new result walk);
      };
  lies = c.in_ok-block.ensures.lies;
  leads =
      leads_roots c.args.query.now.counted.now c.args.at c.args.query.now.key.now c.in_ok-block.block
      (c.in_ok-block.ensures.block.0 ∙ ap (λ xs. get_or xs 1 0) c.in_ok-count.ensures.numbers.1
      ∙ ap (λ (n : ℕ). field c.args.query.now.counted.now n 1) c.from.ensures)
      (c.in_ok-block.ensures.block.1 ∙ ap (λ xs. get_or xs 0 0) c.in_ok-count.ensures.numbers.1
      ∙ ap (λ (n : ℕ). field c.args.query.now.counted.now n 0) c.from.ensures);
  searches = search rules;
}

pub returns-in_err-below-clause-finds : goal.returns-in_err-below-clause-finds
returns-in_err-below-clause-finds c = λ rules stand.
    let next = next (get_or c.args.query.now.key.now (length c.args.query.now.key.now - 1 - c.loop-depth.depth) 0) c.loop-depth-test.true
    refl (c.loop-depth.invariant.left rules stand) in
    next.stopped c.descend.new.progress _ c.from_residual-in_err-below.result c.from_residual-in_err-below.ensures.1
    (c.in_err-below.ensures.finds next.tree next.reads)

pub returns-in_default-clause-finds : goal.returns-in_default-clause-finds
returns-in_default-clause-finds c = λ rules stand.
    let next = next (get_or c.args.query.now.key.now (length c.args.query.now.key.now - 1 - c.loop-depth.depth) 0) c.loop-depth-test.true
    refl (c.loop-depth.invariant.left rules stand) in
    let below = c.in_ok-below.ensures.below.reads next.tree next.reads in
    let found = c.in_ok-below.ensures.finds next.tree next.reads in
    let none = rw c.in_default.is at below in
    let step = rw c.in_default.is at found in
    next.done c.descend.new.progress none step

pub loop-depth-preserved : goal.loop-depth-preserved
loop-depth-preserved c = record {
  left = λ rules stand.
      let next = next (get_or c.args.query.now.key.now (length c.args.query.now.key.now - 1 - c.loop-depth.depth) 0)
      c.loop-depth-test.true refl (c.loop-depth.invariant.left rules stand) in
      let below = c.in_ok-below.ensures.below.reads next.tree next.reads in
      let found = c.in_ok-below.ensures.finds next.tree next.reads in
      let lower = rw c.in-Some.is at below in
      let step = rw c.in-Some.is at found in
      next.later c.in-Some.below c.descend.new.progress lower step;
  lies = rw c.in-Some.is at c.in_ok-below.ensures.below.lies;
  leads =
      leads_on c.args.query.now.counted.now c.args.at c.args.query.now.key.now c.loop-depth.depth c.loop-depth.block c.loop-depth.invariant.leads
      c.in-Some.below c.loop-depth-test.true (rw c.in-Some.is at c.in_ok-below.ensures.below.named);
  searches =
      let within = step_within c.args.query.now.counted.now c.args.at c.args.query.now.key.now c.loop-depth.depth c.loop-depth.block
      c.loop-depth.invariant.leads c.loop-depth-test.true in
      searches_ok (searches_then c.loop-depth.invariant.searches (searches_within within c.in_ok-below.ensures.searches) (omega arith));
}

pub returns-clause-finds : goal.returns-clause-finds
returns-clause-finds c = λ rules stand. none_left c.loop-depth-test.false (c.loop-depth.invariant.left rules stand)

pub returns-in_default-clause-searches : goal.returns-in_default-clause-searches
returns-in_default-clause-searches c =
    let within = step_within c.args.query.now.counted.now c.args.at c.args.query.now.key.now c.loop-depth.depth c.loop-depth.block
    c.loop-depth.invariant.leads c.loop-depth-test.true in
    searches_ok (searches_then c.loop-depth.invariant.searches (searches_within within c.in_ok-below.ensures.searches) (omega arith))

pub returns-in_err-below-clause-searches : goal.returns-in_err-below-clause-searches
returns-in_err-below-clause-searches c =
    let within = step_within c.args.query.now.counted.now c.args.at c.args.query.now.key.now c.loop-depth.depth c.loop-depth.block
    c.loop-depth.invariant.leads c.loop-depth-test.true in
    searches_err c.from_residual-in_err-below.result c.from_residual-in_err-below.ensures.1
    (searches_then c.loop-depth.invariant.searches (searches_within within c.in_err-below.ensures.searches) (omega arith))
