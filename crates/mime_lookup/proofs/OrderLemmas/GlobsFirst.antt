-- The answer where the globs are asked first, by whether they give it alone.
use Rattle.std.proofs.Common.{◌≡◌, ℕ, true, refl, List, [], Option, get_or}
use Rattle.std.specs.Prelude.{IfSome}
use Rattle.mime_base.specs.Database.{PlainDatabase, pairs_of}
use Rattle.mime_base.specs.declared.magic.host.Host.{Host}
use Rattle.mime_lookup.specs.CheckingOrder.{Chooses, are_one_type}
use Rattle.mime_lookup.specs.Choice.{ChoosesAmong, kept}
use Rattle.mime_lookup.specs.Finding.{PlainFinding, found_in, resolved_finding}
use Rattle.mime_lookup.specs.declared.order.Order.TheVariants.{GlobsFirst}
use Rattle.mime_lookup.proofs.OrderLemmas.Answering.{by_globs, by_globs_and_content}
use Rattle.mime_lookup.proofs.SniffLemmas.Findings.{sniffed-where}

module _ (b : PlainDatabase) (name : List ℕ) (host : Host) where
  -- they are
  pub alone : (known : Option (Option (List ℕ))) (answer : List ℕ) → are_one_type (kept (pairs_of b) b.rules name) ≡ true →
      answer ≡ get_or (kept (pairs_of b) b.rules name) 0 [] → IfSome known (λ content. Chooses b name content host GlobsFirst answer)
  alone = by_globs b name host GlobsFirst refl (kept (pairs_of b) b.rules name) refl

  -- they are not
  pub with_content : (found : PlainFinding) (known : Option (Option (List ℕ))) (kinds : List (List ℕ)) (answer : List ℕ) →
      kinds ≡ kept (pairs_of b) b.rules name → IfSome known (λ content. found ≡ found_in b content host) →
      ChoosesAmong (pairs_of b) kinds (resolved_finding b.aliases found) answer →
      IfSome known (λ content. Chooses b name content host GlobsFirst answer)
  with_content found known kinds answer are is chosen =
      by_globs_and_content b name host GlobsFirst refl kinds are known (resolved_finding b.aliases found) answer
      (sniffed-where b host found known is) chosen
