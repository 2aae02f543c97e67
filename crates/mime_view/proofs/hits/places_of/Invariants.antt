use Rattle.std.proofs.Common.{◌≡◌, map, take}
use Rattle.mime_view.proofs.hits.places_of.Given as goal

abbrev pub invariant-loop-hit : goal.invariant-loop-hit
invariant-loop-hit l = l.places.items ≡ map (λ hit. hit.1) (take l.hit-index l.hits)
