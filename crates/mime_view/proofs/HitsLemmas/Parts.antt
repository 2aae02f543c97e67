-- A part of a cache that belongs to another: what a search of the one says, it says of the other.
use Rattle.std.proofs.Common.{ℕ, inl, inr, ⊎_elim}
use Rattle.std.specs.Prelude.{Result}
use Rattle.std.proofs.lemmas.Result.{IfErr-weaker, on_ok_weaker}
use Rattle.mime_view.specs.Steps.{IsSearchStop, Part, Searches, either_part, no_part}
use Rattle.mime_view.specs.declared.fault.CacheFault.{CacheFault}
use Rattle.mime_view.specs.declared.query.Progress.{Progress}
use Rattle.mime_view.proofs.HitsLemmas.AddedHits.{adds_within}

-- What is said of a part is said of another.
pub record IsWithin (part whole : Part) : Type 0 where
  pub fault : (e : CacheFault) → part.Fault e → whole.Fault e
  pub kind : (place : ℕ) → part.Kind place → whole.Kind place

-- the first of two
pub first_within : (one other : Part) → IsWithin one (either_part one other)
first_within one other = record { fault = λ e is. inl is; kind = λ place is. inl is }

-- the second
pub second_within : (one other : Part) → IsWithin other (either_part one other)
second_within one other = record { fault = λ e is. inr is; kind = λ place is. inr is }

-- nothing is within any part
pub none_within : (part : Part) → IsWithin no_part part
none_within part = record { fault = λ e is. absurd is; kind = λ place is. absurd is }

-- a part of a part
pub within_then : (part mid whole : Part) → IsWithin part mid → IsWithin mid whole → IsWithin part whole
within_then part mid whole first second = record {
  fault = λ e is. second.fault e (first.fault e is);
  kind = λ place is. second.kind place (first.kind place is);
}

-- a search of a part is one of the whole
pub searches_within : {X : Type 0} {part whole : Part} {each more : ℕ} {old new : Progress} {r : Result X CacheFault} → IsWithin part whole
    → Searches part each more old new r → Searches whole each more old new r
searches_within {part = part} {whole = whole} {old = old} {new = new} {r = r} within step = record {
  fault = IfErr-weaker r (IsSearchStop part.Fault new) (IsSearchStop whole.Fault new) (λ e. ⊎_elim (λ is. inl (within.fault e is)) inr) step.fault;
  asked = step.asked;
  few = step.few;
  added = on_ok_weaker r (adds_within part.Kind whole.Kind old.hits.offers new.hits.offers within.kind) step.added;
  cost = step.cost;
}
