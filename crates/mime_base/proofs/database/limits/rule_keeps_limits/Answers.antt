use Rattle.std.proofs.Common.{subst}
use Rattle.mime_base.specs.Database.Limits.{KeepsLimits}
use Rattle.mime_base.proofs.database.limits.rule_keeps_limits.Goals as goal

pub returns : goal.returns
returns c =
    let kept = c.parts_keep_limits.ensures in
    subst (λ pattern. KeepsLimits (record c.args.rule.now { pattern = pattern })) c.bytes.ensures.text
    (kept.weight, kept.length, kept.bytes)
