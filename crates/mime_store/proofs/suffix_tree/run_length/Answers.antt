use Rattle.std.proofs.Common.{arith, sym, ap, ◌∙◌, ◌+◌, ◌<◌, length}
use Rattle.mime_store.specs.SuffixTree.{ending_entry, ending_path}
use Rattle.mime_store.proofs.ListLemmas.Loops.{views_more}
use Rattle.mime_store.proofs.SuffixTreeLemmas.Groups.{start_push, starts}
use Rattle.mime_store.proofs.suffix_tree.run_length.Goals as goal

pub loop-ending-preserved : goal.loop-ending-preserved
loop-ending-preserved c =
    let e = c.ending-item.result in
    let lt : c.args.depth < length (ending_path e) = omega (arith, c.length.ensures.length) in
    record {
      place = ap (λ n. n + 1) c.loop-ending.invariant.place;
      all = rw (views_more
          (ending_entry c.args.depth) c.args.endings.now c.loop-ending.ending-index c.ending-item.result
          c.loop-ending-test.true c.ending-item.is)
          (start_push _ _ _ c.loop-ending.invariant.all
          (starts c.args.depth c.ending-item.result c.args.byte lt
          (sym c.byte-next.ensures ∙ c.if-next-byte.false)));
    }
