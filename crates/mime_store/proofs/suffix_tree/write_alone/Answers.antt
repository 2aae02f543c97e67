-- The leaf, and a node more.
use Rattle.std.proofs.Common.{◌≡◌, ◌+◌, ◌-◌, ℕ, [], ◌∷◌, arith, ap, sym, ◌∙◌, subst}
use Rattle.std.proofs.lemmas.List.{drop_all}
use Rattle.mime_store.specs.SuffixTree.{ending_entry, ending_path}
use Rattle.mime_store.proofs.SuffixTreeLemmas.Alone.{Block, alone_leaf, alone_node}
use Rattle.mime_store.proofs.suffix_tree.write_alone.Goals as goal

pub loop-at-init : goal.loop-at-init
loop-at-init c =
    let e = c.args.ending.now in
    let path = ending_path e in
    let long = c.length-at.ensures.length in
    record {
      within = omega (arith, long);
      block = alone_leaf c.length-at.result c.in_ok-kind.kind c.in_ok-first.first c.args.out.now.items _ c.append_row.new.out.items e
          (omega (arith, long)) (rw c.bytes.ensures.text at c.in_ok-kind.ensures.grew) (rw c.bytes.ensures.text at c.in_ok-kind.ensures.stands)
          c.in_ok-first.ensures.grew (rw c.weight_and_flags.ensures at c.in_ok-first.ensures.stand);
      ends = λ le. ap (λ (p : _). (p, e.rule.now))
          (drop_all c.length-at.result path (omega (arith, long)) ∙ sym (drop_all c.args.depth path (omega (arith, long, le))));
    }

pub loop-at-preserved : goal.loop-at-preserved
loop-at-preserved c =
    let e = c.args.ending.now in
    let at = c.loop-at.at in
    let some = c.loop-at-test.true in
    let within = c.loop-at.invariant.within in
    let same : at ≡ at - 1 + 1 = omega (arith, some) in
    let below : Block c.args.out.now.items c.loop-at.out.items c.loop-at.first (ending_entry (at - 1 + 1) e ∷ []) =
    subst (λ (d : ℕ). Block c.args.out.now.items c.loop-at.out.items c.loop-at.first (ending_entry d e ∷ [])) same c.loop-at.invariant.block in
    record {
      within = omega (arith, within);
      block = alone_node (at - 1) c.from.result c.loop-at.first c.in_ok-first-2.first c.args.out.now.items c.loop-at.out.items
          c.append_row-in-loop-at.new.out.items e (omega (arith, some, within)) (c.from.ensures ∙ c.byte.ensures) below
          c.in_ok-first-2.ensures.grew c.in_ok-first-2.ensures.stand;
      ends = λ le. ap (λ (d : ℕ). ending_entry d e) (omega (arith, le, some));
    }
