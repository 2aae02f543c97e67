use Rattle.std.proofs.Common.{◌+◌, ◌-◌, ◌≡◌, sym, subst, arith, drop}
use Rattle.mime_names.specs.Tree.{AddsText, spelled}
use Rattle.mime_names.proofs.TreeLemmas.{adds-more, adds-none, grows-refl}
use Rattle.mime_names.proofs.tree.known_ending.Goals as goal

pub loop-left-init : goal.loop-left-init
loop-left-init c = record { within = omega arith; known = adds-none c.args.tree.now c.args.text.now c.requires }

pub loop-left-preserved : goal.loop-left-preserved
loop-left-preserved c =
    let tree = c.args.tree.now in
    let left = c.loop-left.left - 1 in
    let here : c.loop-left.left ≡ left + 1 = omega (arith, c.loop-left-test.true) in
    record {
      within = omega (arith, c.loop-left.invariant.within);
      known =
          adds-more tree tree tree c.args.text.now left c.loop-left.at _ c.next_of-next.result
          (omega (arith, here, c.loop-left.invariant.within)) c.symbol_of.ensures.below c.symbol_of.ensures.symbol
          (subst (λ n. AddsText tree (drop n (spelled c.args.text.now)) tree c.loop-left.at) here c.loop-left.invariant.known)
          record {
            grows = grows-refl tree;
            is_tree = c.requires;
            is = sym c.next_of-next.ensures.next;
            some = omega (arith, c.if-next-eq0.false);
            within = c.next_of-next.ensures.within;
          };
    }
