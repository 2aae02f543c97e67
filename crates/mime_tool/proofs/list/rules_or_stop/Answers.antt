use Rattle.std.proofs.Common.{Vec, map}
use Rattle.std.specs.declared.alloc.Global.{Global}
use Rattle.mime_view.specs.Listing.{plain_listed}
use Rattle.mime_view.specs.declared.rules.listing.Listed.{Listed}
use Rattle.mime_tool.specs.List.{AreRulesOf, HasListedRules, IsUnlisted}
use Rattle.mime_tool.proofs.CacheLemmas.Caches.{refused_for}
use Rattle.mime_tool.proofs.list.rules_or_stop.Goals as goal

pub returns-in-Err : goal.returns-in-Err
returns-in-Err c =
    let cache = c.args.cache.now in
    refused_for (Vec Listed Global) c.args.path.now cache (IsUnlisted cache) HasListedRules
    (λ rules. AreRulesOf cache (map plain_listed rules.items)) c.in-Err.fault c.faulty.result c.faulty.ensures
    c.in-Err.ensures.fault
    c.in-Err.ensures.need
