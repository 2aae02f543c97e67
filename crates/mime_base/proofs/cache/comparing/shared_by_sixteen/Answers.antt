use Rattle.std.proofs.Common.{length, drop, arith, ◌∙◌}
use Rattle.std.proofs.lemmas.List.{drop-drop}
use Rattle.std.proofs.lemmas.Slice.{between_to_end}
use Rattle.mime_base.proofs.CacheLemmas.Stops.{shared-passed}
use Rattle.mime_base.proofs.cache.comparing.shared_by_sixteen.Goals as goal

pub loop-start-preserved : goal.loop-start-preserved
loop-start-preserved c =
    let start = c.loop-start.start in
    let equal = c.shared_of_sixteen-equal.result in
    let front = between_to_end c.args.front.now start (length c.args.front.now) (omega arith) in
    let key = between_to_end c.args.key.now start (length c.args.key.now) (omega arith) in
    let passed = shared-passed 16 equal (drop start c.args.front.now) (drop start c.args.key.now)
    (rw (front, key) at c.shared_of_sixteen-equal.ensures.shared) in
    let on = rw (drop-drop equal start c.args.front.now, drop-drop equal start c.args.key.now) at passed in
    record {
      same = omega (arith, on.0, c.loop-start.invariant.same);
      order = on.1 ∙ c.loop-start.invariant.order;
      front = omega (arith, c.shared_of_sixteen-equal.ensures.most);
      key = omega (arith, c.shared_of_sixteen-equal.ensures.most);
    }

pub returns-then-equal-lt16 : goal.returns-then-equal-lt16
returns-then-equal-lt16 c =
    let start = c.loop-start.start in
    let equal = c.shared_of_sixteen-equal.result in
    let front = between_to_end c.args.front.now start (length c.args.front.now) (omega arith) in
    let key = between_to_end c.args.key.now start (length c.args.key.now) (omega arith) in
    let passed = shared-passed 16 equal (drop start c.args.front.now) (drop start c.args.key.now)
    (rw (front, key) at c.shared_of_sixteen-equal.ensures.shared) in
    let on = rw (drop-drop equal start c.args.front.now, drop-drop equal start c.args.key.now) at passed in
    record {
      shared = omega (arith, on.0, c.loop-start.invariant.same);
      order = on.1 ∙ c.loop-start.invariant.order;
      front = omega (arith, c.shared_of_sixteen-equal.ensures.most);
      key = omega (arith, c.shared_of_sixteen-equal.ensures.most);
    }
