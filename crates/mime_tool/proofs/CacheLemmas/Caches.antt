-- From CACHE that was read, and a run over it, to the run of a command.
use Rattle.std.proofs.Common.{◌≡◌, ◌≢◌, ◌∙◌, ◌⊎◌, ℕ, List, [], inl, inr, Some, None, Result, Ok, Err, Vec, ap, subst, sym}
use Rattle.std.specs.declared.alloc.Global.{Global}
use Rattle.mime_base.specs.Database.{PlainDatabase}
use Rattle.mime_base.specs.Format.Packed.{Packed}
use Rattle.mime_base.specs.Format.Spells.{Spells}
use Rattle.mime_view.specs.declared.fault.CacheFault.{CacheFault}
use Rattle.mime_view.specs.declared.fault.CacheFault.TheVariants as fault
use Rattle.mime_lookup.specs.declared.stopped.Cause.{Cause}
use Rattle.mime_lookup.specs.declared.stopped.Cause.TheVariants as cause
use Rattle.mime_tool.specs.Cache.{GivesOrRefuses, IsAnsweredOr, IsCacheCommand, IsCacheFaultStop, IsCacheRefusal, cache_fault_name}
use Rattle.mime_tool.specs.Desk.{EndsOverFiles, ReadsWhole}
use Rattle.mime_tool.specs.Files.{IsBytesOf, Stored}
use Rattle.mime_tool.specs.Finish.{Sinks}
use Rattle.mime_tool.specs.Run.{Run, refusal, silent, stopped}
use Rattle.mime_tool.specs.Stop.{IsRefusal}
use Rattle.mime_tool.specs.declared.stop.Stop.{Stop}
use Rattle.mime_tool.specs.declared.stop.Stop.TheVariants as stop
use Rattle.mime_tool.proofs.RunLemmas.Ends.{writes_nothing, writes_same}
use Rattle.mime_tool.proofs.RunLemmas.Programs.{ends_weaker}

-- what a run over files is, by a cache
abbrev pub OverCache : Type 1
OverCache = List ℕ → List (List ℕ) → Run → Type 0

-- it isn't read
pub cache_unread : (stored : List ℕ → Stored) (path : List ℕ) (IsOver : OverCache) (files : List (List ℕ)) (a b : Sinks)
    (s : Stop)
    → ReadsWhole (IsBytesOf (stored path)) path a b (Err s) → EndsOverFiles (IsCacheCommand stored path IsOver) files a b (Err s)
cache_unread stored path IsOver files a b stop.OutOfMemory p = inl (writes_same a b p)
cache_unread stored path IsOver files a b stop.CannotWrite p = absurd p
cache_unread stored path IsOver files a b (stop.Refused m) p =
    (silent, (None, p.1, ap (λ (t : List ℕ). stopped t silent) p.2), writes_same a b p.0)

-- it is read, and a run over it comes to its end
pub cache_read : (stored : List ℕ → Stored) (path : List ℕ) (IsOver : OverCache) (files : List (List ℕ)) (v : Vec ℕ Global)
    (a b c : Sinks) (r : Result ℕ Stop) → ReadsWhole (IsBytesOf (stored path)) path a b (Ok v) → EndsOverFiles (IsOver v.items) files b c r
    → EndsOverFiles (IsCacheCommand stored path IsOver) files a c r
cache_read stored path IsOver files v a b c r p q =
    subst (λ (s : Sinks). EndsOverFiles (IsCacheCommand stored path IsOver) files s c r) p.0
    (ends_weaker (IsOver v.items) (IsCacheCommand stored path IsOver) files b c r (λ fs run is. (Some v.items, p.1, is)) q)

-- it is refused, or memory ran out
pub cache_refused : (X : Type 0) (path : List ℕ) (IsRefusedFor : CacheFault → Type 0) (IsGiven : X → Type 0)
    (IsAnswered : Run → Type 0)
    (a : Sinks) (s : Stop) → GivesOrRefuses {X = X} path IsRefusedFor IsGiven (Err s)
    → EndsOverFiles (λ _. IsAnsweredOr path IsRefusedFor IsAnswered) [] a a (Err s)
cache_refused X path IsRefusedFor IsGiven IsAnswered a stop.OutOfMemory p = inl (writes_nothing a)
cache_refused X path IsRefusedFor IsGiven IsAnswered a stop.CannotWrite p = absurd p
cache_refused X path IsRefusedFor IsGiven IsAnswered a (stop.Refused m) p =
    (silent, inr (p.0, p.1, ap (λ (t : List ℕ). stopped t silent) p.2), writes_nothing a)

-- ---- a fault, and what stops at it

module _ (X : Type 0) (path cache : List ℕ) (IsFault : CacheFault → Type 0) (IsAsked : PlainDatabase → Type 0)
    (IsGiven : X → Type 0) where
  -- a fault but for want of memory
  refused_other : (f : CacheFault) (s : Stop) → f ≢ fault.OutOfMemory → IsRefusal (refusal path (cache_fault_name f)) s → IsFault f
      → ((b : PlainDatabase) → IsAsked b → Spells cache b → Packed cache b → f ≡ fault.OutOfMemory)
      → GivesOrRefuses {X = X} path (IsCacheRefusal cache IsFault IsAsked) IsGiven (Err s)
  refused_other f stop.OutOfMemory other is why need = tt
  refused_other f stop.CannotWrite other is why need = absurd is
  refused_other f (stop.Refused m) other is why need =
      (f, record { other = other; why = why; unspelled = λ b asked spells packed. other (need b asked spells packed) }, is)

  -- what stops at a fault refuses the cache for it
  pub refused_for : (f : CacheFault) (s : Stop) → IsCacheFaultStop path f s → IsFault f
      → ((b : PlainDatabase) → IsAsked b → Spells cache b → Packed cache b → f ≡ fault.OutOfMemory)
      → GivesOrRefuses {X = X} path (IsCacheRefusal cache IsFault IsAsked) IsGiven (Err s)
  refused_for fault.OutOfMemory s is why need =
      subst (λ (t : Stop). GivesOrRefuses {X = X} path (IsCacheRefusal cache IsFault IsAsked) IsGiven (Err t)) (sym is) tt
  refused_for fault.Truncated s is why need = refused_other fault.Truncated s (λ e. cc) is why need
  refused_for (fault.Version major minor) s is why need = refused_other (fault.Version major minor) s (λ e. cc) is why need
  refused_for fault.TooLarge s is why need = refused_other fault.TooLarge s (λ e. cc) is why need
  refused_for (fault.OutOfRange at) s is why need = refused_other (fault.OutOfRange at) s (λ e. cc) is why need
  refused_for (fault.LongText at) s is why need = refused_other (fault.LongText at) s (λ e. cc) is why need
  refused_for fault.Spent s is why need = refused_other fault.Spent s (λ e. cc) is why need
  refused_for fault.TooDeep s is why need = refused_other fault.TooDeep s (λ e. cc) is why need

  -- so does what stops for a lookup that reads no content
  pub stopped_refused : (why : Cause) (s : Stop) → ((f : CacheFault) → why ≡ cause.Cache f → IsCacheFaultStop path f s)
      → (why ≡ cause.OutOfMemory → s ≡ stop.OutOfMemory)
      → (why ≡ cause.OutOfMemory) ⊎ ((f : CacheFault) × (why ≡ cause.Cache f) × (f ≢ fault.OutOfMemory) × IsFault f)
      → ((b : PlainDatabase) → IsAsked b → Spells cache b → Packed cache b → why ≡ cause.OutOfMemory)
      → GivesOrRefuses {X = X} path (IsCacheRefusal cache IsFault IsAsked) IsGiven (Err s)
  stopped_refused why s by memory (inl is) need =
      subst (λ (t : Stop). GivesOrRefuses {X = X} path (IsCacheRefusal cache IsFault IsAsked) IsGiven (Err t)) (sym (memory is)) tt
  stopped_refused why s by memory (inr (f, is, other, fault_is)) need =
      refused_for f s (by f is) fault_is (λ b asked spells packed. absurd (cache_memory f (sym is ∙ need b asked spells packed)))
    where
      cache_memory : (f : CacheFault) → cause.Cache f ≡ cause.OutOfMemory → ⊥
      cache_memory f e = cc
