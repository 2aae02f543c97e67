use Rattle.std.specs.Bool.{⊤}
use Rattle.mime_view.specs.Opening.{IsOpenFault}
use Rattle.mime_tool.proofs.CacheLemmas.Caches.{refused_for}
use Rattle.mime_tool.proofs.CacheLemmas.Headers.{spelled_opens}
use Rattle.mime_tool.proofs.check.open.Goals as goal

pub returns-in-Err : goal.returns-in-Err
returns-in-Err c =
    let cache = c.args.cache.now in
    let why = rw c.new.ensures at c.in-Err.ensures.opened in
    refused_for (Unit {0}) c.args.path.now cache (IsOpenFault cache) (λ _. ⊤) (λ _. ⊤) c.in-Err.fault c.faulty.result
    c.faulty.ensures why (λ b asked spells packed. absurd (spelled_opens cache b c.in-Err.fault spells why))
