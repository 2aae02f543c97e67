use Rattle.std.proofs.Common.{rules}
use Rattle.mime_lookup.proofs.LookUpLemmas.SpelledParts.{spelled_globs}
use Rattle.mime_lookup_tests.proofs.tests.lookup.health.look_up_broken_in.Goals as goal

pub returns-clause-refused : goal.returns-clause-refused
returns-clause-refused c b within spells silent =
    let asked = c.look_up.ensures.reads.asks b (spelled_globs c.args.cache b within spells) in
    search rules

pub returns-clause-not_read : goal.returns-clause-not_read
returns-clause-not_read c b within spells decided =
    let asked = c.look_up.ensures.reads.asks b (spelled_globs c.args.cache b within spells) in
    search rules
