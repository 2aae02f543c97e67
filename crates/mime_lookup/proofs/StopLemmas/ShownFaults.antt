-- For which fault a step stops over a cache: the header's before any other.
use Rattle.std.proofs.Common.{◌≡◌, ◌∙◌, List, ℕ, Result, Ok, Err, ap, subst, sym}
use Rattle.std.specs.Prelude.{IfErr, IsErrAnd}
use Rattle.mime_lookup.specs.LookUps.{ShowsFault}
use Rattle.mime_lookup.proofs.StopLemmas.OpenFaults.{on_ok, opens_without_fault, same_fault}
use Rattle.mime_view.specs.Opening.{IsOpenFault, Opens}
use Rattle.mime_view.specs.declared.fault.CacheFault.{CacheFault}

module _ {X E : Type 0} (told : CacheFault → E) (IsFault : E → Type 0) (c : List ℕ) where
  -- of a cache that opened, a later one's
  pub opened_shows : (result : Result X E) → Opens c → IfErr result IsFault → ShowsFault told c IsFault result
  opened_shows result opens fault = record {
    refused = λ e is. absurd (opens_without_fault c e opens is);
    opened = on_ok result opens;
    fault = fault;
  }

  -- of one that doesn't open, the header's, which is passed on
  pub unopened_shows : (passes : CacheFault → E) (given : CacheFault) (result : Result X E)
      → ((e : CacheFault) → IsOpenFault c e → passes e ≡ told e) → IsOpenFault c given
      → IsErrAnd result (λ stop. stop ≡ passes given) → IsFault (passes given) → ShowsFault told c IsFault result
  unopened_shows passes given (Ok x) same is passed fault = absurd passed
  unopened_shows passes given (Err stop) same is passed fault = record {
    refused = λ e other. passed ∙ ap passes (same_fault c given e is other) ∙ same e other;
    opened = tt;
    fault = subst IsFault (sym passed) fault;
  }
