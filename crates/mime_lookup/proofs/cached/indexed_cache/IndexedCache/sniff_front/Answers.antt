use Rattle.mime_lookup.proofs.cached.indexed_cache.IndexedCache.sniff_front.Goals as goal

pub returns-in_default-Some-clause-found : goal.returns-in_default-Some-clause-found
returns-in_default-Some-clause-found c b enough =
    let is = rw c.in_default-Some.is-1 at c.self.invariant.3 in
    c.sniff_indexed.ensures.found c.args.self.now b (rw c.deref.ensures (rw c.self.view_is at is)) enough
