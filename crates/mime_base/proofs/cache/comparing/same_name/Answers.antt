use Rattle.std.proofs.Common.{arith}
use Rattle.std.proofs.lemmas.Bool.Decides.{nat_tests}
use Rattle.mime_base.proofs.CacheLemmas.Prefixes.{common_prefix_len-self, equal_by_prefix}
use Rattle.mime_base.proofs.cache.comparing.same_name.Goals as goal

pub returns-then-common-left-clause-same : goal.returns-then-common-left-clause-same
returns-then-common-left-clause-same c =
    grind (arith, nat_tests, common_prefix_len-self, equal_by_prefix c.args.left.now c.args.right.now)

pub returns-else-common-left-clause-same : goal.returns-else-common-left-clause-same
returns-else-common-left-clause-same c =
    grind (arith, nat_tests, common_prefix_len-self c.args.left.now)
