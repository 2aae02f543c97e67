use Rattle.std.proofs.Common.{length, drop, arith}
use Rattle.std.proofs.lemmas.List.{drop-drop}
use Rattle.std.proofs.lemmas.Slice.{between_to_end}
use Rattle.mime_base.proofs.CacheLemmas.Eights.{common-passed}
use Rattle.mime_base.proofs.cache.comparing.common_by_eight.Goals as goal

pub loop-start-preserved : goal.loop-start-preserved
loop-start-preserved c =
    let start = c.loop-start.start in
    let common = c.common_of_eight-common.result in
    let left = between_to_end c.args.left.now start (length c.args.left.now) (omega arith) in
    let right = between_to_end c.args.right.now start (length c.args.right.now) (omega arith) in
    let passed = common-passed 8 common (drop start c.args.left.now) (drop start c.args.right.now)
    (rw (left, right) at c.common_of_eight-common.ensures.common) in
    let on = rw (drop-drop common start c.args.left.now, drop-drop common start c.args.right.now) at passed in
    record {
      same = omega (arith, on, c.loop-start.invariant.same);
      left = omega (arith, c.common_of_eight-common.ensures.most);
      right = omega (arith, c.common_of_eight-common.ensures.most);
    }

pub returns-then-common-lt8 : goal.returns-then-common-lt8
returns-then-common-lt8 c =
    let start = c.loop-start.start in
    let common = c.common_of_eight-common.result in
    let left = between_to_end c.args.left.now start (length c.args.left.now) (omega arith) in
    let right = between_to_end c.args.right.now start (length c.args.right.now) (omega arith) in
    let passed = common-passed 8 common (drop start c.args.left.now) (drop start c.args.right.now)
    (rw (left, right) at c.common_of_eight-common.ensures.common) in
    let on = rw (drop-drop common start c.args.left.now, drop-drop common start c.args.right.now) at passed in
    record {
      common = omega (arith, on, c.loop-start.invariant.same);
      left = omega (arith, c.common_of_eight-common.ensures.most);
      right = omega (arith, c.common_of_eight-common.ensures.most);
    }
