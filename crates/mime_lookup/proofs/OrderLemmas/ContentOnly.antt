-- The answer where the content alone is asked, by what was found in it.
use Rattle.std.proofs.Common.{◌≡◌, ℕ, refl, List, Option}
use Rattle.std.specs.Prelude.{IfSome}
use Rattle.mime_base.specs.Database.{PlainDatabase}
use Rattle.mime_base.specs.declared.magic.host.Host.{Host}
use Rattle.mime_lookup.specs.CheckingOrder.{Chooses}
use Rattle.mime_lookup.specs.Finding.{PlainFinding, found_in, resolved_finding}
use Rattle.mime_lookup.specs.declared.order.Order.TheVariants.{ContentOnly}
use Rattle.mime_lookup.proofs.OrderLemmas.Answering.{by_content}
use Rattle.mime_lookup.proofs.SniffLemmas.Findings.{sniffed-where}

-- it is the type of what was found
pub by_finding : (b : PlainDatabase) (name : List ℕ) (host : Host) (found : PlainFinding) (known : Option (Option (List ℕ)))
    (answer : List ℕ) → IfSome known (λ content. found ≡ found_in b content host) → answer ≡ resolved_finding b.aliases found →
    IfSome known (λ content. Chooses b name content host ContentOnly answer)
by_finding b name host found known answer is same =
    rw same (by_content b name host ContentOnly refl known (resolved_finding b.aliases found) (sniffed-where b host found known is))
