-- What steps add to a listing one after another, and where one stops.
use Rattle.std.proofs.Common.{◌≡◌, ℕ, List}
use Rattle.std.specs.Prelude.{All, IsErrAnd, Ok, Result}
use Rattle.std.proofs.lemmas.Result.{err_from_is_err_and}
use Rattle.mime_view.specs.Listing.{Adds, IsListed, PlainListed}
use Rattle.mime_view.specs.Listing.Faults.{IsSiblingFault, IsSiblingsFault}
use Rattle.mime_view.specs.Spending.{Spends, per_record}
use Rattle.mime_view.specs.declared.fault.CacheFault.{CacheFault}
use Rattle.mime_view.specs.declared.spending.Spending.{Spending}
use Rattle.mime_view.proofs.CostLemmas.Costs.{spends_then}
use Rattle.mime_view.proofs.ListingLemmas.SiblingFaults.{here}

-- a step that goes on adds to what was added
pub adds_then : {X Y : Type 0} {c : List ℕ} {Fault Other : ℕ → CacheFault → Type 0} {before now after : List PlainListed}
    {old mid new : Spending} {x : X} {y : Y} → Adds c Fault 0 before now old mid (Ok x) → Adds c Other 0 now after mid new (Ok y)
    → Adds c Fault 0 before after old new (Ok x)
adds_then {old = old} {mid = mid} {new = new} first second = record {
  texts = λ all. second.texts (first.texts all);
  fault = tt;
  cost = spends_then (per_record 512) 0 0 0 0 old mid new first.cost second.cost;
}

-- a step that stops adds what was added before
pub adds_stop : {X : Type 0} {c : List ℕ} {Fault : ℕ → CacheFault → Type 0} {before after : List PlainListed} {old new : Spending}
    (e : CacheFault) (r : Result X CacheFault) → IsErrAnd r (λ y. y ≡ e) → (All (IsListed c) before → All (IsListed c) after)
    → Fault new.budget.records e → Spends (per_record 512) 0 0 old new → Adds c Fault 0 before after old new r
adds_stop e r is texts fault cost =
    let p = err_from_is_err_and r is in
    rw (p.1, p.2) record { texts = texts; fault = fault; cost = cost }

-- so does one that stops at a sibling itself
pub adds_here : {X : Type 0} {c : List ℕ} {at above : ℕ} {before after : List PlainListed} {old new : Spending} {e : CacheFault}
    (r : Result X CacheFault) → IsErrAnd r (λ y. y ≡ e) → (All (IsListed c) before → All (IsListed c) after)
    → IsSiblingFault c at above new.budget.records e → Spends (per_record 512) 0 0 old new
    → Adds c (IsSiblingsFault c at 1 above) 0 before after old new r
adds_here {c = c} {at = at} {above = above} {new = new} {e = e} r is texts fault cost =
    adds_stop e r is texts (here c at above new.budget.records e fault) cost
