use Rattle.std.proofs.Common.{map, take}
use Rattle.mime_base.specs.Database.Lent.{plain_rule}
use Rattle.mime_base.specs.Kept.{hits}
use Rattle.mime_tool.specs.ExplainSteps.{AreRanked}
use Rattle.mime_tool.proofs.explain.rules.offers_of.Given as goal

abbrev pub invariant-loop-place : goal.invariant-loop-place
invariant-loop-place l = AreRanked (hits (take l.place (map plain_rule l.rules)) l.name) l.offers.items
