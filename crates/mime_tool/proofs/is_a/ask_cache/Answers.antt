use Rattle.std.proofs.Common.{Bool}
use Rattle.std.specs.Bool.{⊤}
use Rattle.mime_lookup.specs.StepFaults.{IsSubclassFault}
use Rattle.mime_tool.specs.IsA.{IsSaid}
use Rattle.mime_tool.proofs.CacheLemmas.Caches.{stopped_refused}
use Rattle.mime_tool.proofs.CacheLemmas.Spelled.{spelled_pairs}
use Rattle.mime_tool.proofs.is_a.ask_cache.Goals as goal

pub returns-in-Ok : goal.returns-in-Ok
returns-in-Ok c =
    let found = rw c.new.ensures at c.in-Ok.ensures.answer in
    λ b spells. found b (spelled_pairs c.args.cache.now b spells)

pub returns-in-Err : goal.returns-in-Err
returns-in-Err c =
    let cache = c.args.cache.now in
    let found = rw c.new.ensures at c.in-Err.ensures in
    stopped_refused Bool c.args.path.now cache (IsSubclassFault cache) (λ _. ⊤) (IsSaid cache c.args.kind.now c.args.base.now)
    c.in-Err.stopped.cause c.stopped_for.result c.stopped_for.ensures.fault c.stopped_for.ensures.memory found.stops.fault
    (λ b asked spells packed. found.stops.need b (spelled_pairs cache b spells, packed) spells.within)
