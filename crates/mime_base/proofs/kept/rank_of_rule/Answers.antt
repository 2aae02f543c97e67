use Rattle.std.proofs.Common.{length, ap, arith}
use Rattle.mime_base.proofs.KeptLemmas.{is_pattern-short}
use Rattle.mime_base.proofs.kept.rank_of_rule.Goals as goal

pub overflow_cast-pattern : goal.overflow_cast-pattern
overflow_cast-pattern c =
    let short = is_pattern-short c.args.rule.now.pattern c.bytes-pattern.ensures.limits in
    omega (arith, ap length c.bytes-pattern.ensures.text)

pub returns-clause-limits : goal.returns-clause-limits
returns-clause-limits c =
    let short = is_pattern-short c.args.rule.now.pattern c.bytes-pattern.ensures.limits in
    (omega arith, omega arith)
