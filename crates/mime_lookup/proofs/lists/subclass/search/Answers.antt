use Rattle.mime_lookup.proofs.lists.subclass.search.Goals as goal

pub returns-clause-answer : goal.returns-clause-answer
returns-clause-answer c = rw c.in_ok-both.ensures.pairs at c.in_ok-is.ensures.answer
