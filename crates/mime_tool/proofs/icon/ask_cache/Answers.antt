use Rattle.std.specs.Bool.{⊤}
use Rattle.mime_lookup.specs.Icons.{plain_icons_of}
use Rattle.mime_lookup.specs.StepFaults.{IsIconFault}
use Rattle.mime_lookup.specs.declared.cached.icons.Icons.{Icons}
use Rattle.mime_tool.specs.Icon.{AreIconsOf}
use Rattle.mime_tool.proofs.CacheLemmas.Caches.{stopped_refused}
use Rattle.mime_tool.proofs.CacheLemmas.Spelled.{spelled_icons}
use Rattle.mime_tool.proofs.icon.ask_cache.Goals as goal

pub returns-in-Ok : goal.returns-in-Ok
returns-in-Ok c =
    let found = rw c.new.ensures at c.in-Ok.ensures.answer in
    λ b spells. found b (spelled_icons c.args.cache.now b spells)

pub returns-in-Err : goal.returns-in-Err
returns-in-Err c =
    let cache = c.args.cache.now in
    let found = rw c.new.ensures at c.in-Err.ensures in
    stopped_refused Icons c.args.path.now cache (IsIconFault cache) (λ _. ⊤)
    (λ icons. AreIconsOf cache c.args.kind.now (plain_icons_of icons))
    c.in-Err.stopped.cause c.stopped_for.result c.stopped_for.ensures.fault c.stopped_for.ensures.memory found.stops.fault
    (λ b asked spells packed. found.stops.need b (spelled_icons cache b spells) spells.within)
