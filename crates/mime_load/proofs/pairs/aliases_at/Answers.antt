use Rattle.mime_load.proofs.pairs.aliases_at.Goals as goal

pub returns-clause-need : goal.returns-clause-need
returns-clause-need c = rw c.from.ensures at c.pairs_at.ensures.need
