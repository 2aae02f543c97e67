use Rattle.std.proofs.Common.{◌≡◌, ◌<◌, [], ◌∷◌, length, get_or, arith, length-append, sym, subst}
use Rattle.mime_lookup.specs.Pairs.{IsPairAt}
use Rattle.mime_lookup.proofs.IndexLemmas.NotedPairs.{paired_more}
use Rattle.mime_lookup.proofs.indexed.other_pairs.pairs_of.Goals as goal

pub loop-at-preserved : goal.loop-at-preserved
loop-at-preserved c =
    let pairs = c.loop-at.pairs.items in
    let others = c.args.others.now in
    let number = c.pair_at.result in
    let size : length pairs ≡ c.loop-at.at = c.loop-at.invariant.size in
    let room : length pairs < length others = omega (arith, size, c.loop-at-test.true) in
    let here : IsPairAt number c.args.heads.now (get_or others (length pairs) 0) =
    subst (λ at. IsPairAt number c.args.heads.now (get_or others at 0)) (sym size) c.pair_at.ensures in
    rw c.in_ok-push.ensures.items (record {
      size = omega (arith, length-append pairs (number ∷ []), size);
      each = paired_more pairs others c.args.heads.now number room here c.loop-at.invariant.each;
    })
