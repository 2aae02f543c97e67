use Rattle.std.proofs.Common.{arith}
use Rattle.mime_load.proofs.SpelledParts.{packed_rules, spelled_names}
use Rattle.mime_load.proofs.name_lists.read_names.Goals as goal

pub returns-clause-written : goal.returns-clause-written
returns-clause-written c = λ b limits spelled packed.
    c.name_lists_of-result.ensures.need b.aliases b.rules (spelled_names c.args.counted.now b spelled limits) spelled.within
    (omega (arith, packed_rules c.args.counted.now b packed, c.room_of-taking.ensures.records, c.length.ensures))
