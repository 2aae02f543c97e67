-- Why a question to a cache stops: its header, or what is looked at once it is open.
use Rattle.std.proofs.Common.{◌≡◌, ◌∙◌, ℕ, ◌≤◌, List, length, Result, Err, ap}
use Rattle.std.specs.Prelude.{IfErr}
use Rattle.std.proofs.lemmas.Result.{IfErr-weaker}
use Rattle.mime_base.specs.Cache.Bytes.{Stands}
use Rattle.mime_base.specs.Database.{PlainDatabase}
use Rattle.mime_base.specs.Format.Header.{HeaderAt, Offsets}
use Rattle.mime_lookup.specs.Asking.{IsCaused, StopsAsking}
use Rattle.mime_lookup.specs.Cached.{cause_of}
use Rattle.mime_lookup.specs.declared.stopped.Cause.TheVariants as cause
use Rattle.mime_lookup.specs.declared.stopped.Stopped.{Stopped}
use Rattle.mime_lookup.proofs.StopLemmas.Cause.{caused}
use Rattle.mime_lookup.proofs.StopLemmas.OpenFaults.{cause_of-open_fault, header_without_fault, on_ok, opens_without_fault, same_fault}
use Rattle.mime_view.specs.Opening.{IsOpenFault, Opens}
use Rattle.mime_view.specs.declared.fault.CacheFault.{CacheFault}
use Rattle.mime_view.specs.declared.fault.CacheFault.TheVariants.{OutOfMemory}

-- Bytes that don't open have no header that stands, and the fault of opening says why.
pub unopened : {X : Type 0} (c : List ℕ) (e : CacheFault) (IsFault : CacheFault → Type 0) (IsEnough : PlainDatabase → Type 0)
    → IsOpenFault c e → IsFault e → ((b : PlainDatabase) → IsEnough b → (offsets : Offsets) × HeaderAt (Stands c) offsets)
    → StopsAsking {X = X} cause_of c IsFault IsEnough (Err e)
unopened c e IsFault IsEnough is fault header = record {
  opened = tt;
  refused = λ x other. ap cause_of (same_fault c e x is other) ∙ cause_of-open_fault c x other;
  need = λ b enough small. let stand = header b enough in absurd (header_without_fault c stand.0 e stand.1 small is);
  fault = caused IsFault e fault;
}

-- Over an opened cache a step says why.
pub opened_stops : {X : Type 0} (c : List ℕ) (IsFault IsLeft : CacheFault → Type 0) (IsEnough : PlainDatabase → Type 0)
    (result : Result X CacheFault) → Opens c → IfErr result IsLeft → ((e : CacheFault) → IsLeft e → IsCaused IsFault (cause_of e))
    → ((b : PlainDatabase) → IsEnough b → length c ≤ 268435456 → IfErr result (λ e. e ≡ OutOfMemory))
    → StopsAsking cause_of c IsFault IsEnough result
opened_stops c IsFault IsLeft IsEnough result opens left is need = record {
  opened = on_ok result opens;
  refused = λ e fault. absurd (opens_without_fault c e opens fault);
  need = λ b enough small.
      IfErr-weaker result (λ e. e ≡ OutOfMemory) (λ e. cause_of e ≡ cause.OutOfMemory) (λ e memory. ap cause_of memory)
      (need b enough small);
  fault = IfErr-weaker result IsLeft (λ e. IsCaused IsFault (cause_of e)) is left;
}

-- The cause that is reported is that of the fault.
pub reported : {X Y : Type 0} (c : List ℕ) (IsFault : CacheFault → Type 0) (IsEnough : PlainDatabase → Type 0) (e : CacheFault)
    (stopped : Stopped) → stopped.cause ≡ cause_of e → StopsAsking {X = X} cause_of c IsFault IsEnough (Err e)
    → StopsAsking {X = Y} (λ (s : Stopped). s.cause) c IsFault IsEnough (Err stopped)
reported c IsFault IsEnough e stopped same stops = record {
  opened = tt;
  refused = λ x fault. same ∙ stops.refused x fault;
  need = λ b enough small. same ∙ stops.need b enough small;
  fault = rw same stops.fault;
}
