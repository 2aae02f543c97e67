use Rattle.std.proofs.Common.{◌≡◌, ◌≤◌, ◌==◌, length, take}
use Rattle.std.specs.List.{filter}
use Rattle.mime_view.proofs.hits.count_best.Given as goal

abbrev pub invariant-loop-hit : goal.invariant-loop-hit
invariant-loop-hit l = record {
  counted : l.count ≡ length (filter (λ hit. hit.0 == l.first.0) (take l.hit-index l.hits));
  few : l.count ≤ l.hit-index;
}
