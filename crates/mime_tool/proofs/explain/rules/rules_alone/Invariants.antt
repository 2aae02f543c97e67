use Rattle.std.proofs.Common.{◌≡◌, map, take}
use Rattle.mime_tool.proofs.explain.rules.rules_alone.Given as goal

abbrev pub invariant-loop-place : goal.invariant-loop-place
invariant-loop-place l = l.rules.items ≡ map (λ offer. offer.1) (take l.place l.offers)
