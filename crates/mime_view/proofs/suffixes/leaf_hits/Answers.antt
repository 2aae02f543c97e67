use Rattle.std.proofs.Common.{◌≡◌, ◌+◌, ◌*◌, arith, ◌∙◌, sym}
use Rattle.mime_view.proofs.HitsLemmas.Parts.{searches_within}
use Rattle.mime_view.proofs.HitsLemmas.Steps.{searches_err, searches_none, searches_ok, searches_then}
use Rattle.mime_view.proofs.SuffixTreeLemmas.TreeScans.{next_leaf, node_left, none_left, stopped}
use Rattle.mime_view.proofs.SuffixTreeLemmas.WalkedParts.{leaf_within}
use Rattle.mime_view.proofs.suffixes.leaf_hits.Goals as goal

pub loop-i-init : goal.loop-i-init
loop-i-init c = record {
  left = λ tree reads. record {
    rest = tree;
    size = omega (arith, reads.size);
    siblings = let e : c.args.block.first + 12 * 0 ≡ c.args.block.first = omega arith in rw e reads.siblings;
    ordered = reads.ordered;
    suffixes = λ all. all;
    whole = λ new result scan. scan;
  };
  searches = searches_none c.args.progress.now;
}

pub loop-i-preserved : goal.loop-i-preserved
loop-i-preserved c = record {
  left = λ tree reads.
      let leaf = rw c.if-not-branch.false at c.in_ok-offer_leaf.ensures.finds in
      next_leaf (c.loop-i.invariant.left tree reads) c.offer_leaf.new.progress c.loop-i-test.true
      (sym c.in_ok-offer_leaf.ensures.leaf ∙ c.if-not-branch.false) leaf;
  searches = searches_ok (searches_then c.loop-i.invariant.searches (searches_within
      (leaf_within c.args.query.now.counted.now c.args.block c.requires.lies c.loop-i.i c.loop-i-test.true) c.in_ok-offer_leaf.ensures.searches)
      (omega arith));
}

pub returns-in_err-offer_leaf-clause-finds : goal.returns-in_err-offer_leaf-clause-finds
returns-in_err-offer_leaf-clause-finds c = λ tree reads.
    stopped (c.loop-i.invariant.left tree reads) c.offer_leaf.new.progress c.from_residual.result c.from_residual.ensures.1
    c.loop-i-test.true c.in_err-offer_leaf.ensures.finds c.in_err-offer_leaf.ensures.passes

pub returns-in_err-offer_leaf-clause-searches : goal.returns-in_err-offer_leaf-clause-searches
returns-in_err-offer_leaf-clause-searches c =
    searches_err c.from_residual.result c.from_residual.ensures.1
    (searches_then {k = 0} c.loop-i.invariant.searches (searches_within
    (leaf_within c.args.query.now.counted.now c.args.block c.requires.lies c.loop-i.i c.loop-i-test.true) c.in_err-offer_leaf.ensures.searches)
    (omega arith))

pub returns-then-not-branch-clause-finds : goal.returns-then-not-branch-clause-finds
returns-then-not-branch-clause-finds c = λ tree reads.
    let node = rw c.if-not-branch.true at c.in_ok-offer_leaf.ensures.passes in
    node_left (c.loop-i.invariant.left tree reads) c.offer_leaf.new.progress c.loop-i-test.true
    (sym c.in_ok-offer_leaf.ensures.leaf ∙ c.if-not-branch.true) node

pub returns-clause-finds : goal.returns-clause-finds
returns-clause-finds c = λ tree reads. none_left (c.loop-i.invariant.left tree reads) c.loop-i-test.false

pub returns-then-not-branch-clause-searches : goal.returns-then-not-branch-clause-searches
returns-then-not-branch-clause-searches c =
    searches_ok (searches_then {k = 0} c.loop-i.invariant.searches (searches_within
    (leaf_within c.args.query.now.counted.now c.args.block c.requires.lies c.loop-i.i c.loop-i-test.true) c.in_ok-offer_leaf.ensures.searches)
    (omega arith))
