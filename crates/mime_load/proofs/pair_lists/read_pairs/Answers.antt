use Rattle.std.proofs.Common.{arith}
use Rattle.mime_load.proofs.SpelledParts.{spelled_pairs}
use Rattle.mime_load.proofs.pair_lists.read_pairs.Goals as goal

pub returns-clause-written : goal.returns-clause-written
returns-clause-written c = λ b limits spelled packed.
    c.pair_lists_of-result.ensures.need b.aliases b.parents (spelled_pairs c.args.counted.now b spelled limits) spelled.within
    (omega (arith, packed.records, c.room_of-taking.ensures.records, c.length.ensures))

pub returns-clause-need : goal.returns-clause-need
returns-clause-need c = λ aliases parents has within room.
    c.pair_lists_of-result.ensures.need aliases parents has within
    (omega (arith, room, c.room_of-taking.ensures.records, c.length.ensures))
