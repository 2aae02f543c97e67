-- Why a call over a cache stops, by the fault of the cache.
use Rattle.std.proofs.Common.{◌≡◌, refl, inl, inr}
use Rattle.mime_lookup.specs.Asking.{IsCaused}
use Rattle.mime_lookup.specs.Cached.{cause_of}
use Rattle.mime_lookup.specs.declared.stopped.Cause.TheVariants as cause
use Rattle.mime_view.specs.declared.fault.CacheFault.{CacheFault}
use Rattle.mime_view.specs.declared.fault.CacheFault.TheVariants.{Truncated, Version, TooLarge, OutOfRange}
use Rattle.mime_view.specs.declared.fault.CacheFault.TheVariants.{LongText, Spent, TooDeep, OutOfMemory}

-- why a call stops for a fault
pub caused : (IsFault : CacheFault → Type 0) (e : CacheFault) → IsFault e → IsCaused IsFault (cause_of e)
caused IsFault Truncated is = inr (Truncated, refl, (λ same. cc), is)
caused IsFault (Version major minor) is = inr (Version major minor, refl, (λ same. cc), is)
caused IsFault TooLarge is = inr (TooLarge, refl, (λ same. cc), is)
caused IsFault (OutOfRange at) is = inr (OutOfRange at, refl, (λ same. cc), is)
caused IsFault (LongText at) is = inr (LongText at, refl, (λ same. cc), is)
caused IsFault Spent is = inr (Spent, refl, (λ same. cc), is)
caused IsFault TooDeep is = inr (TooDeep, refl, (λ same. cc), is)
caused IsFault OutOfMemory is = inl refl

-- the fault that a cause says
pub says_fault : (e x : CacheFault) → cause_of e ≡ cause.Cache x → e ≡ x
says_fault Truncated x is = cc
says_fault (Version major minor) x is = cc
says_fault TooLarge x is = cc
says_fault (OutOfRange at) x is = cc
says_fault (LongText at) x is = cc
says_fault Spent x is = cc
says_fault TooDeep x is = cc
says_fault OutOfMemory x is = absurd cc
