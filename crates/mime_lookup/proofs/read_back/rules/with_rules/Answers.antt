use Rattle.std.proofs.Common.{arith}
use Rattle.mime_lookup.proofs.SpellingLemmas.Targets.{rank_fits}
use Rattle.mime_lookup.proofs.read_back.rules.with_rules.Goals as goal

pub with-requires-clause-limits : goal.with-requires-clause-limits
with-requires-clause-limits c =
    rank_fits c.args.listed.now c.requires.limits c.loop-rule.rule-index _ (omega (arith, c.loop-rule-test.true))
