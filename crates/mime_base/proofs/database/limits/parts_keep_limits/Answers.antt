use Rattle.std.proofs.Common.{arith}
use Rattle.mime_base.proofs.KeptLemmas.{is_pattern-short}
use Rattle.mime_base.proofs.database.limits.parts_keep_limits.Goals as goal

pub returns-clause-length : goal.returns-clause-length
returns-clause-length c =
    let short = is_pattern-short c.args.pattern.now c.requires.pattern in
    omega arith
