-- Eight bytes more, and eight that differ.
use Rattle.std.proofs.Common.{◌+◌, ◌≤◌, length, sym, ◌∙◌, arith}
use Rattle.mime_store.proofs.BytesLemmas.Orders.{words-differ, words-equal}
use Rattle.mime_store.proofs.texts.compare_texts.Goals as goal

pub loop-at-preserved : goal.loop-at-preserved
loop-at-preserved c =
    let left = c.args.left.now in
    let right = c.args.right.now in
    let at = c.loop-at.at in
    let inside : at + 8 ≤ length left = omega (arith, c.loop-at-test.true, c.min-both.ensures, c.min-room.ensures, c.loop-at.invariant.within) in
    let inside' : at + 8 ≤ length right = omega (arith, c.loop-at-test.true, c.min-both.ensures, c.min-room.ensures, c.loop-at.invariant.within) in
    record {
      within = omega (arith, c.loop-at-test.true, c.loop-at.invariant.within);
      order = sym (words-equal at left right c.read_u64-word.result c.read_u64-other.result inside inside'
          (λ k. omega (arith, c.type_inv.left k)) (λ k. omega (arith, c.type_inv.right k)) c.read_u64-word.ensures c.read_u64-other.ensures
          c.if-word-other.false) ∙ c.loop-at.invariant.order;
    }

pub returns-then-word-other : goal.returns-then-word-other
returns-then-word-other c =
    let left = c.args.left.now in
    let right = c.args.right.now in
    let at = c.loop-at.at in
    let inside : at + 8 ≤ length left = omega (arith, c.loop-at-test.true, c.min-both.ensures, c.min-room.ensures, c.loop-at.invariant.within) in
    let inside' : at + 8 ≤ length right = omega (arith, c.loop-at-test.true, c.min-both.ensures, c.min-room.ensures, c.loop-at.invariant.within) in
    c.cmp.ensures
    ∙ sym (words-differ at left right c.read_u64-word.result c.read_u64-other.result inside inside'
    (λ k. omega (arith, c.type_inv.left k)) (λ k. omega (arith, c.type_inv.right k)) c.read_u64-word.ensures c.read_u64-other.ensures
    c.if-word-other.true) ∙ c.loop-at.invariant.order
