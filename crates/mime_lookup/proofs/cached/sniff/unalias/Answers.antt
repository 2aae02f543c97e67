use Rattle.mime_lookup.proofs.cached.sniff.unalias.Goals as goal

pub returns-in-Magic-clause-answer : goal.returns-in-Magic-clause-answer
returns-in-Magic-clause-answer c b offsets header aliases =
    rw c.in-Magic.is (c.unalias.ensures.answer offsets b.aliases header aliases)

pub returns-in-Magic-clause-cost : goal.returns-in-Magic-clause-cost
returns-in-Magic-clause-cost c =
    let step = c.unalias.ensures in
    record { budget = step.budget; looks = step.cost }
