use Rattle.std.proofs.Common.{◌∙◌}
use Rattle.mime_lookup.proofs.cached.indexed_cache.IndexedCache.unalias.Goals as goal

pub returns-in-Some-clause-answer : goal.returns-in-Some-clause-answer
returns-in-Some-clause-answer c =
    let is = rw c.in-Some.is at c.self.invariant.2 in
    rw (c.deref.ensures ∙ is ∙ c.self.view_is) at c.unalias.ensures.answer

pub returns-in-None-clause-answer : goal.returns-in-None-clause-answer
returns-in-None-clause-answer c = rw c.self.view_is at c.unalias-in-None.ensures.answer
