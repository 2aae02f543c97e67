-- The answer where magic is asked first, by what was found in the content.
use Rattle.std.proofs.Common.{◌≡◌, ℕ, true, false, refl, List, Option}
use Rattle.std.specs.Prelude.{IfSome}
use Rattle.mime_base.specs.Database.{PlainDatabase, pairs_of}
use Rattle.mime_base.specs.declared.magic.host.Host.{Host}
use Rattle.mime_lookup.specs.CheckingOrder.{Chooses}
use Rattle.mime_lookup.specs.Choice.{ChoosesAmong, kept}
use Rattle.mime_lookup.specs.Finding.{PlainFinding, found_in, is_high, resolved_finding}
use Rattle.mime_lookup.specs.declared.order.Order.TheVariants.{MagicFirst}
use Rattle.mime_lookup.proofs.OrderLemmas.Answering.{by_magic, by_magic_and_globs}
use Rattle.mime_lookup.proofs.SniffLemmas.Findings.{before_globs-where, sniffed-where}

module _ (b : PlainDatabase) (name : List ℕ) (host : Host) (found : PlainFinding) (known : Option (Option (List ℕ))) (answer : List ℕ)
    (is : IfSome known (λ content. found ≡ found_in b content host))
  where
    -- magic of high priority
    pub by_high_magic : answer ≡ resolved_finding b.aliases found → is_high found ≡ true →
        IfSome known (λ content. Chooses b name content host MagicFirst answer)
    by_high_magic same high =
        rw same (by_magic b name host MagicFirst refl (resolved_finding b.aliases found) (is_high found) known high
        (before_globs-where b host found known is))

    -- magic of low priority, or none, and the globs
    pub by_low_magic : is_high found ≡ false →
        ChoosesAmong (pairs_of b) (kept (pairs_of b) b.rules name) (resolved_finding b.aliases found) answer →
        IfSome known (λ content. Chooses b name content host MagicFirst answer)
    by_low_magic low chosen =
        by_magic_and_globs b name host MagicFirst refl (resolved_finding b.aliases found) (is_high found) known
        (kept (pairs_of b) b.rules name) answer refl low (before_globs-where b host found known is) (sniffed-where b host found known is)
        chosen
