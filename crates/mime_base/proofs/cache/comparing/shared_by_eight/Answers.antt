use Rattle.std.proofs.Common.{length, drop, arith, ◌∙◌}
use Rattle.std.proofs.lemmas.List.{drop-drop}
use Rattle.std.proofs.lemmas.Slice.{between_to_end}
use Rattle.mime_base.proofs.CacheLemmas.Stops.{shared-passed}
use Rattle.mime_base.proofs.cache.comparing.shared_by_eight.Goals as goal

pub returns : goal.returns
returns c =
    let start = c.shared_by_sixteen-start.result in
    let equal = c.shared_of_eight.result in
    let front = between_to_end c.args.front.now start (length c.args.front.now) (omega arith) in
    let key = between_to_end c.args.key.now start (length c.args.key.now) (omega arith) in
    let passed = shared-passed 8 equal (drop start c.args.front.now) (drop start c.args.key.now)
    (rw (front, key) at c.shared_of_eight.ensures.shared) in
    let on = rw (drop-drop equal start c.args.front.now, drop-drop equal start c.args.key.now) at passed in
    record {
      shared = omega (arith, on.0, c.shared_by_sixteen-start.ensures.shared);
      order = on.1 ∙ c.shared_by_sixteen-start.ensures.order;
      front = omega (arith, c.shared_of_eight.ensures.most);
      key = omega (arith, c.shared_of_eight.ensures.most);
    }
