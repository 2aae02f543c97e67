-- Commands over CACHE: what is said of one that can't be read or gives no answer.
use Rattle.std.specs.Prelude.{◌≡◌, ◌≢◌, ◌⊎◌, ℕ, List, ◌++◌, Option, Some, None, Result, Ok, Err, codes, decimal, string_bytes}
use Rattle.mime_base.specs.Database.{PlainDatabase}
use Rattle.mime_base.specs.Format.Packed.{Packed}
use Rattle.mime_base.specs.Format.Spells.{Spells}
use Rattle.mime_view.specs.declared.fault.CacheFault.{CacheFault}
use Rattle.mime_view.specs.declared.fault.CacheFault.TheVariants as fault
use Rattle.mime_tool.specs.Files.{IsBytesOf, Stored}
use Rattle.mime_tool.specs.Run.{Run, cannot_read, refusal, silent, stopped}
use Rattle.mime_tool.specs.Stop.{IsRefusal}
use Rattle.mime_tool.specs.declared.stop.Stop.{Stop}
use Rattle.mime_tool.specs.declared.stop.Stop.TheVariants as stop

-- what the message on a fault calls it
abbrev pub cache_fault_name : CacheFault → List ℕ
cache_fault_name fault.Truncated = codes "truncated"
cache_fault_name (fault.Version major minor) = codes "version " ++ (decimal major ++ (codes "." ++ decimal minor))
cache_fault_name fault.TooLarge = codes "too large"
cache_fault_name (fault.OutOfRange at) = codes "out of range at " ++ decimal at
cache_fault_name (fault.LongText at) = codes "long text at " ++ decimal at
cache_fault_name fault.Spent = codes "budget spent"
cache_fault_name fault.TooDeep = codes "too deep"
cache_fault_name fault.OutOfMemory = codes "out of memory"

-- what stops at a fault of the cache at this path: the message on it, or that memory ran out
abbrev pub IsCacheFaultStop : List ℕ → CacheFault → Stop → Type 0
IsCacheFaultStop path fault.OutOfMemory s = s ≡ stop.OutOfMemory
IsCacheFaultStop path f s = IsRefusal (refusal path (cache_fault_name f)) s

-- a fault for which a cache gives no answer: IsFault says why, and no cache that spells what is asked for and is packed has it
pub record IsCacheRefusal (cache : List ℕ) (IsFault : CacheFault → Type 0) (IsAsked : PlainDatabase → Type 0)
    (f : CacheFault) : Type 0 where
  pub other : f ≢ fault.OutOfMemory
  pub why : IsFault f
  pub unspelled : (b : PlainDatabase) → IsAsked b → Spells cache b → Packed cache b → ⊥

-- the run over a cache, up to the first fault: it is answered, or refused
abbrev pub IsAnsweredOr : List ℕ → (CacheFault → Type 0) → (Run → Type 0) → Run → Type 0
IsAnsweredOr path IsRefusedFor IsAnswered run =
    IsAnswered run ⊎ ((f : CacheFault) × IsRefusedFor f × (run ≡ stopped (refusal path (cache_fault_name f)) silent))

-- something is given by the cache at this path, or it is refused, unless memory ran out
abbrev pub GivesOrRefuses : {X : Type 0} → List ℕ → (CacheFault → Type 0) → (X → Type 0) → Result X Stop → Type 0
GivesOrRefuses path IsRefusedFor IsGiven (Ok x) = IsGiven x
GivesOrRefuses path IsRefusedFor IsGiven (Err (stop.Refused text)) =
    (f : CacheFault) × IsRefusedFor f × (string_bytes text ≡ refusal path (cache_fault_name f))
GivesOrRefuses path IsRefusedFor IsGiven (Err stop.CannotWrite) = ⊥
GivesOrRefuses path IsRefusedFor IsGiven (Err stop.OutOfMemory) = Unit {0}

-- the run after CACHE was read, by its bytes, or after it couldn't be; IsOver says what a run over files is by a cache
abbrev pub IsAfterReading : List ℕ → Option (List ℕ) → (List ℕ → List (List ℕ) → Run → Type 0) → List (List ℕ) → Run → Type 0
IsAfterReading path None IsOver files run = run ≡ stopped (cannot_read path) silent
IsAfterReading path (Some cache) IsOver files run = IsOver cache files run

-- the run of a command over the cache at this path, which is read first
abbrev pub IsCacheCommand : (List ℕ → Stored) → List ℕ → (List ℕ → List (List ℕ) → Run → Type 0) → List (List ℕ) → Run → Type 0
IsCacheCommand stored path IsOver files run =
    (found : Option (List ℕ)) × IsBytesOf (stored path) found × IsAfterReading path found IsOver files run
