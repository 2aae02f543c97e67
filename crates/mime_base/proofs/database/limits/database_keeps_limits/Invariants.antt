use Rattle.std.proofs.Common.{ℕ, ◌<◌, slice_index_or}
use Rattle.mime_base.specs.Database.Limits.{KeepsLimits}
use Rattle.mime_base.specs.declared.database.rule.GlobRule.{GlobRule}
use Rattle.mime_base.proofs.database.limits.database_keeps_limits.Given as goal

abbrev pub invariant-loop-rule : goal.invariant-loop-rule
invariant-loop-rule l =
    (k : ℕ) (d : GlobRule) → k < l.rule-index → KeepsLimits (slice_index_or l.database.rules.items k d)
