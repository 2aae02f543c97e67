-- Why a step of a lookup over a cache stops, from the fault of its own step and from what a step that it calls stops for.
use Rattle.std.proofs.Common.{◌≡◌, ◌⊎◌, ℕ, List, Option, None, Some, Result, Ok, Err, ap, inl, inr, refl, subst, sym}
use Rattle.std.specs.Prelude.{IfErr, IfOk, IsErrAnd, OnOk}
use Rattle.mime_base.specs.Database.{PlainDatabase}
use Rattle.mime_lookup.specs.Cached.{IsStop, cause_of}
use Rattle.mime_base.specs.declared.magic.host.Host.{Host}
use Rattle.mime_lookup.specs.StepFaults.{IsLookUpFault, IsRestFault, of_choice, of_head, of_header, of_magic}
use Rattle.mime_lookup.specs.Steps.{Stops}
use Rattle.mime_lookup.specs.declared.stopped.Cause.{Cause}
use Rattle.mime_lookup.specs.declared.stopped.Cause.TheVariants as cause
use Rattle.mime_view.specs.declared.budget.Budget.{Budget}
use Rattle.mime_view.specs.declared.fault.CacheFault.{CacheFault}
use Rattle.mime_view.specs.declared.fault.CacheFault.TheVariants as fault

-- an error that is passed on
pub passed_on : {X E : Type 0} (IsSo : E → Type 0) (error : E) (result : Result X E)
    → IsErrAnd result (λ passed. passed ≡ error) → IsSo error → IfErr result IsSo
passed_on IsSo error (Ok x) same is = tt
passed_on IsSo error (Err passed) same is = subst IsSo (sym same) is

-- an error is no answer
pub not_ok : {X E : Type 0} (P : Type 0) (Is : E → Type 0) (result : Result X E) → IsErrAnd result Is → OnOk result P
not_ok P Is (Ok x) is = absurd is
not_ok P Is (Err e) is = tt

-- nor is it of any kind
pub not_given : {X E : Type 0} (P : X → Type 0) (Is : E → Type 0) (result : Result X E) → IsErrAnd result Is → IfOk result P
not_given P Is (Ok x) is = absurd is
not_given P Is (Err e) is = tt

-- a budget that is spent is no other fault
pub spent_fault : (e : CacheFault) → cause_of e ≡ cause.Cache fault.Spent → e ≡ fault.Spent
spent_fault fault.Truncated same = absurd cc
spent_fault (fault.Version major minor) same = absurd cc
spent_fault fault.TooLarge same = absurd cc
spent_fault (fault.OutOfRange at) same = absurd cc
spent_fault (fault.LongText at) same = absurd cc
spent_fault fault.Spent same = refl
spent_fault fault.TooDeep same = absurd cc
spent_fault fault.OutOfMemory same = absurd cc

-- nor is a read that failed
pub no_read_fault : (e : CacheFault) → cause_of e ≡ cause.Read → ⊥
no_read_fault fault.Truncated same = cc
no_read_fault (fault.Version major minor) same = cc
no_read_fault fault.TooLarge same = cc
no_read_fault (fault.OutOfRange at) same = cc
no_read_fault (fault.LongText at) same = cc
no_read_fault fault.Spent same = cc
no_read_fault fault.TooDeep same = cc
no_read_fault fault.OutOfMemory same = cc

-- a fault of a cache, as a cause
pub stop_of_fault : (IsFault : CacheFault → Type 0) (e : CacheFault) → IsFault e → IsStop IsFault (cause_of e)
stop_of_fault IsFault fault.Truncated is = inr (inr (fault.Truncated, refl, (λ same. absurd cc), is))
stop_of_fault IsFault (fault.Version major minor) is = inr (inr (fault.Version major minor, refl, (λ same. absurd cc), is))
stop_of_fault IsFault fault.TooLarge is = inr (inr (fault.TooLarge, refl, (λ same. absurd cc), is))
stop_of_fault IsFault (fault.OutOfRange at) is = inr (inr (fault.OutOfRange at, refl, (λ same. absurd cc), is))
stop_of_fault IsFault (fault.LongText at) is = inr (inr (fault.LongText at, refl, (λ same. absurd cc), is))
stop_of_fault IsFault fault.Spent is = inr (inr (fault.Spent, refl, (λ same. absurd cc), is))
stop_of_fault IsFault fault.TooDeep is = inr (inr (fault.TooDeep, refl, (λ same. absurd cc), is))
stop_of_fault IsFault fault.OutOfMemory is = inr (inl refl)

-- a read that failed, or memory that was refused
pub stop_of_read : {IsFault : CacheFault → Type 0} {stop : Cause} → (stop ≡ cause.Read) ⊎ (stop ≡ cause.OutOfMemory) → IsStop IsFault stop
stop_of_read (inl read) = inl read
stop_of_read (inr memory) = inr (inl memory)

-- a fault of a step
pub stops_for : (IsUsed : Type 0) (IsEnough IsRead : PlainDatabase → Type 0) (e : CacheFault)
    → (e ≡ fault.Spent → IsUsed) → ((b : PlainDatabase) → IsEnough b → e ≡ fault.OutOfMemory)
    → Stops IsUsed IsEnough IsRead (cause_of e)
stops_for IsUsed IsEnough IsRead e spent need = record {
  spent = λ same. spent (spent_fault e same);
  need = λ b enough. inl (ap cause_of (need b enough));
}

-- a reader that stops
pub stops_reading : (IsUsed : Type 0) (IsEnough IsRead : PlainDatabase → Type 0) (stop : Cause)
    → (stop ≡ cause.Read) ⊎ (stop ≡ cause.OutOfMemory) → ((b : PlainDatabase) → IsRead b) → Stops IsUsed IsEnough IsRead stop
stops_reading IsUsed IsEnough IsRead stop (inl read) reads = record {
  spent = λ same. absurd cc;
  need = λ b enough. inr (read, reads b);
}
stops_reading IsUsed IsEnough IsRead stop (inr memory) reads = record {
  spent = λ same. absurd cc;
  need = λ b enough. inl memory;
}

-- a step that it calls stops
pub stops_then : {A B : Type 0} {P Q S T : PlainDatabase → Type 0} (stop : Cause) → Stops A P S stop → (A → B)
    → ((b : PlainDatabase) → Q b → P b) → ((b : PlainDatabase) → Q b → S b → T b) → Stops B Q T stop
stops_then stop is uses needs reads = record {
  spent = λ same. uses (is.spent same);
  need = λ b enough. or_read (is.need b (needs b enough)) (reads b enough);
}
  where
    or_read : {M R A B : Type 0} → M ⊎ (R × A) → (A → B) → M ⊎ (R × B)
    or_read (inl memory) weaker = inl memory
    or_read (inr read) weaker = inr (read.0, weaker read.1)

-- a stop for a fault of one kind is one for a fault of another
pub stop_weaker : {A B : CacheFault → Type 0} (stop : Cause) → ((e : CacheFault) → A e → B e) → IsStop A stop → IsStop B stop
stop_weaker stop weaker (inl read) = inl read
stop_weaker stop weaker (inr (inl memory)) = inr (inl memory)
stop_weaker stop weaker (inr (inr (e, is, other, fault))) = inr (inr (e, is, other, weaker e fault))

-- what the name leaves is at fault: a front only where there is a content
pub rest_fault : (c name : List ℕ) (front : Option (List ℕ)) (host : Host) (after : Budget) {NoContent : Type 0} (e : CacheFault)
    → (NoContent → front ≡ None) → IsRestFault c name front host after e → IsLookUpFault c name NoContent e
rest_fault c name None host after e absent (inl fault) = absurd fault
rest_fault c name (Some front) host after e absent (inl fault) =
    of_magic (λ none. let both : Some front ≡ None = absent none in cc) front host after fault
rest_fault c name front host after e absent (inr choice) = of_choice after choice

-- a fault of a lookup is one of a lookup with a content
pub fault_there : {c name : List ℕ} {NoContent : Type 0} (e : CacheFault) → IsLookUpFault c name NoContent e → IsLookUpFault c name ⊥ e
fault_there e (of_header header) = of_header header
fault_there e (of_choice after choice) = of_choice after choice
fault_there e (of_head there head) = of_head (λ none. none) head
fault_there e (of_magic there front host after sniff) = of_magic (λ none. none) front host after sniff
