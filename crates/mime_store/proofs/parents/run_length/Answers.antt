use Rattle.std.proofs.Common.{ap, ℕ, ◌+◌}
use Rattle.mime_store.proofs.ParentsLemmas.RunLoops.{of_kind_more, same_texts}
use Rattle.mime_store.proofs.parents.run_length.Goals as goal

pub loop-pair-preserved : goal.loop-pair-preserved
loop-pair-preserved c =
    record {
      place = ap (λ (n : ℕ). n + 1) c.loop-pair.invariant.place;
      all = of_kind_more c.args.kind.now c.args.pairs.now c.loop-pair.pair-index c.pair-item.result c.loop-pair-test.true c.pair-item.is
          c.loop-pair.invariant.all (same_texts _ _ c.if-ne.ensures);
    }
