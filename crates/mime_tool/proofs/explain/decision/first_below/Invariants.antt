use Rattle.std.proofs.Common.{List, Option, ℕ, drop}
use Rattle.mime_base.specs.Database.{pairs_of}
use Rattle.mime_tool.specs.ExplainSteps.{IsFirstBelow, database_of, kinds_of}
use Rattle.mime_tool.proofs.explain.decision.first_below.Given as goal

abbrev pub invariant-loop-kind : goal.invariant-loop-kind
invariant-loop-kind l = (found : Option (List ℕ)) → IsFirstBelow (pairs_of (database_of l.explaining)) l.base (kinds_of (drop l.kind-index l.kinds)) found
    → IsFirstBelow (pairs_of (database_of l.explaining)) l.base (kinds_of l.kinds) found
