-- All that is promised of a lookup of a name alone, from what its steps give.
use Rattle.std.proofs.Common.{◌∙◌, ◌⊎◌, ◌≤◌, ℕ, List, length, Result, Ok, Err, ap, arith, inl, inr, refl}
use Rattle.std.specs.Prelude.{IfErr, IfOk, ⊤}
use denote.Bor.{Bor}
use Rattle.mime_base.specs.declared.meter.Meter.{Meter}
use Rattle.mime_lookup.specs.Cached.{cause_of}
use Rattle.mime_lookup.specs.LookUps.{ShowsFault}
use Rattle.mime_lookup.specs.NameAlone.{AnswersName, CostsName, IsNameLookUp, SufficesForName, told_name}
use Rattle.mime_lookup.specs.Spent.{UsesUp}
use Rattle.mime_lookup.specs.StepFaults.{IsNameFault}
use Rattle.mime_lookup.specs.Steps.{IsPacked, Stops}
use Rattle.mime_lookup.specs.declared.order.Order.{Order}
use Rattle.mime_lookup.proofs.StopLemmas.Cause.{caused}
use Rattle.mime_lookup.proofs.StopLemmas.OpenFaults.{cause_of-open_fault}
use Rattle.mime_lookup.proofs.StopLemmas.StepStops.{no_read_fault}
use Rattle.mime_view.specs.declared.fault.CacheFault.{CacheFault}

-- where no read can fail, memory was refused
memory : {P Q : Type 0} → P ⊎ (Q × ⊥) → P
memory (inl refused) = refused
memory (inr read) = absurd read.1

-- of a name that is short enough
pub naming : (c name : List ℕ) (order : Order) (found : Result (Bor (List ℕ) × ℕ) CacheFault) (meter : Meter) → length name ≤ 4096
    → IfOk found (λ found. AnswersName c name order found.0.now found.1)
    → ShowsFault (λ e. e) c (IsNameFault c name) found
    → IfErr found (λ e. Stops (UsesUp c ⊤ meter.nodes) (λ b. SufficesForName c name order b × IsPacked c b) (λ _. ⊥) (cause_of e))
    → CostsName c name order meter found → IsNameLookUp c name order (told_name found meter)
naming c name order (Ok found) meter short answers faults stops costs = record {
  answers = answers;
  too_long = λ long. absurd (omega (arith, short, long));
  refused = λ _ e opens. absurd (faults.refused e opens);
  opened = faults.opened;
  fault = λ _. tt;
  spent = tt;
  need = λ b enough small packed _. tt;
  read = tt;
  readable = tt;
  bounds = costs.bounds;
  counted = costs.counted;
  near = costs.near;
}
naming c name order (Err e) meter short answers faults stops costs = record {
  answers = tt;
  too_long = λ long. absurd (omega (arith, short, long));
  refused = λ _ x opens. ap cause_of (faults.refused x opens) ∙ cause_of-open_fault c x opens;
  opened = tt;
  fault = λ _. caused (IsNameFault c name) e faults.fault;
  spent = stops.spent;
  need = λ b enough small packed _. memory (stops.need b (enough, record { small = small; packed = packed }));
  read = refl;
  readable = no_read_fault e;
  bounds = costs.bounds;
  counted = tt;
  near = λ b globs decide. tt;
}
