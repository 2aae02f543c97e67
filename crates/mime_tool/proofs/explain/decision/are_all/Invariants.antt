use Rattle.std.proofs.Common.{◌≡◌, drop}
use Rattle.std.specs.List.{list_all}
use Rattle.std.specs.Prelude.{bytes_eq}
use Rattle.mime_tool.specs.ExplainSteps.{kinds_of}
use Rattle.mime_tool.proofs.explain.decision.are_all.Given as goal

abbrev pub invariant-loop-other : goal.invariant-loop-other
invariant-loop-other l = list_all (bytes_eq l.kind) (kinds_of l.kinds) ≡ list_all (bytes_eq l.kind) (kinds_of (drop l.other-index l.kinds))
