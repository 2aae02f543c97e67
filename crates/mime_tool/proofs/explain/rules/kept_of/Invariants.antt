use Rattle.std.proofs.Common.{◌≡◌, take}
use Rattle.mime_base.specs.Kept.{best}
use Rattle.mime_tool.proofs.explain.rules.kept_of.Given as goal

abbrev pub invariant-loop-place : goal.invariant-loop-place
invariant-loop-place l = l.best ≡ best (take l.place l.offers)
