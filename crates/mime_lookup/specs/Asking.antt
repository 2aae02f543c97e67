-- Questions to a cache that need no content: whether a type is another, and which icons it has.
use Rattle.std.specs.Prelude.{◌≡◌, ◌≢◌, ◌⊎◌, ◌↔◌, ◌≤◌, Bool, IsTrue, List, ℕ, length, Result, IfErr, IfOk, IsErrAnd, MatchResult, OnOk}
use Rattle.mime_base.specs.Database.{PlainDatabase, pairs_of}
use Rattle.mime_base.specs.Database.Subclass.{IsA, resolved}
use Rattle.mime_base.specs.Format.Packed.{Packed}
use Rattle.mime_base.specs.declared.meter.Meter.{Meter}
use Rattle.mime_lookup.specs.Bounds.{KeepsBounds}
use Rattle.mime_lookup.specs.Spelling.{SpellsPairs}
use Rattle.mime_lookup.specs.StepFaults.{IsSubclassFault}
use Rattle.mime_lookup.specs.declared.stopped.Cause.{Cause}
use Rattle.mime_lookup.specs.declared.stopped.Cause.TheVariants as cause
use Rattle.mime_lookup.specs.declared.stopped.Stopped.{Stopped}
use Rattle.mime_view.specs.Opening.{IsOpenFault, Opens}
use Rattle.mime_view.specs.declared.fault.CacheFault.{CacheFault}
use Rattle.mime_view.specs.declared.fault.CacheFault.TheVariants as fault

-- the cache has such a fault, which is not that an allocation was refused
abbrev pub IsOfCache : (CacheFault → Type 0) → Cause → Type 0
IsOfCache IsFault stop = (e : CacheFault) × (stop ≡ cause.Cache e) × (e ≢ fault.OutOfMemory) × IsFault e

-- an allocation was refused, or the cache has such a fault
abbrev pub IsCaused : (CacheFault → Type 0) → Cause → Type 0
IsCaused IsFault stop = (stop ≡ cause.OutOfMemory) ⊎ IsOfCache IsFault stop

-- When such a question stops, and why; `why` is the cause that its error says.
pub record StopsAsking {X E : Type 0} (why : E → Cause) (c : List ℕ) (IsFault : CacheFault → Type 0)
    (IsEnough : PlainDatabase → Type 0) (result : Result X E) : Type 0 where
  -- Where there is an answer, the bytes open as a cache.
  pub opened : OnOk result (Opens c)
  -- Bytes that don't are refused for that.
  pub refused : (e : CacheFault) → IsOpenFault c e → IsErrAnd result (λ stop. why stop ≡ cause.Cache e)
  -- Where enough of a database stands in a cache of at most 268,435,456 bytes, only memory is refused.
  pub need : (b : PlainDatabase) → IsEnough b → length c ≤ 268435456 → IfErr result (λ stop. why stop ≡ cause.OutOfMemory)
  -- It stops for memory, or for a fault that the header or another part of the cache shows.
  pub fault : IfErr result (λ stop. IsCaused IsFault (why stop))

-- where the pairs stand, an answer says whether the one type is the other or a subclass of it, each after one alias step
abbrev pub SaysIsA : {X E : Type 0} → (X → Bool) → List ℕ → List ℕ → List ℕ → Result X E → Type 0
SaysIsA says c kind base result = (b : PlainDatabase) → SpellsPairs c b → IfOk result
    (λ found. IsTrue (says found) ↔ IsA (pairs_of b) (resolved b.aliases kind) (resolved b.aliases base))

-- when that question stops, and why: where the pairs of a packed database stand, only for memory
abbrev pub StopsIsA : {X E : Type 0} → (E → Cause) → List ℕ → Result X E → Type 0
StopsIsA why c result = StopsAsking why c (IsSubclassFault c) (λ b. SpellsPairs c b × Packed c b) result

-- whatever the bytes are, such a question keeps to the bounds of an empty name without content
abbrev pub KeepsAsking : {X : Type 0} → (X → Meter) → List ℕ → Result X Stopped → Type 0
KeepsAsking meter c result =
    MatchResult result (λ found. KeepsBounds 0 c 0 (meter found)) (λ stopped. KeepsBounds 0 c 0 stopped.meter)
