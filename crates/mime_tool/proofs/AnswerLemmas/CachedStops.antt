-- From a lookup over a cache that stops to the run over a file.
use Rattle.std.proofs.Common.{◌≡◌, ◌⊎◌, ◌∙◌, ◌<◌, ℕ, Bool, true, false, List, ap, inl, inr, length, nat_le, string_bytes, subst}
use Rattle.std.proofs.Common.{sym}
use Rattle.std.proofs.Common.{Option, Some, None, Result, Err}
use Rattle.std.proofs.lemmas.Bool.{false≢true, leb-false}
use Rattle.std.specs.Bool.{⊤}
use Rattle.mime_base.specs.Database.{PlainDatabase}
use Rattle.mime_base.specs.Database.Limits.{IsWithinLimits}
use Rattle.mime_base.specs.Format.Packed.{Packed}
use Rattle.mime_base.specs.Format.Spells.{Spells}
use Rattle.mime_lookup.specs.Cached.{IsStop}
use Rattle.mime_lookup.specs.Content.{Health}
use Rattle.mime_lookup.specs.StepFaults.{IsLookUpFault}
use Rattle.mime_lookup.specs.declared.order.Order.{Order}
use Rattle.mime_lookup.specs.declared.stopped.Cause.TheVariants as cause
use Rattle.mime_lookup.specs.declared.stopped.Stopped.{Stopped}
use Rattle.mime_lookup.proofs.StopLemmas.StepStops.{fault_there}
use Rattle.mime_view.specs.declared.fault.CacheFault.{CacheFault}
use Rattle.mime_tool.specs.Cache.{GivesOrRefuses, IsCacheFaultStop, cache_fault_name}
use Rattle.mime_tool.specs.Files.{Stored, bytes, closed, dangling, folder, nothing, special, unknown, unreadable}
use Rattle.mime_tool.specs.Line.{IsNamed, IsTypeLineBy, fits, name_for}
use Rattle.mime_tool.specs.LineSteps.{IsContent, LooksUpFile}
use Rattle.mime_request.specs.declared.request.Output.{Output}
use Rattle.mime_tool.specs.Output.{written}
use Rattle.mime_tool.specs.Run.{Run, refusal, silent, stopped}
use Rattle.mime_tool.specs.Types.{RefusesLookup, lookup_by}
use Rattle.mime_tool.specs.declared.stop.Stop.{Stop}
use Rattle.mime_tool.specs.declared.stop.Stop.TheVariants as stop
use Rattle.mime_tool.proofs.CacheLemmas.Caches.{refused_for}

-- a name fits, unless it has more than 4,096 bytes
pub fits_unless : (name : List ℕ) (is : Bool) → nat_le (length name) 4096 ≡ is → (4096 < length name → ⊥)
    → nat_le (length name) 4096 ≡ true
fits_unless name true e short = e
fits_unless name false e short = absurd (short (leb-false (length name) 4096 e))

-- what holds of a name that fits
pub named : (is : Bool) (file : List ℕ) (P : Run → Type 0) (run : Run) → is ≡ true → P run → IsNamed is file P run
named true file P run fit p = p
named false file P run fit p = absurd (false≢true fit)

-- memory was refused, or a read failed
pub read_or_memory : {P Q A : Type 0} → P ⊎ (Q × A) → Q ⊎ P
read_or_memory (inl memory) = inr memory
read_or_memory (inr read) = inl read.0

-- a fault of the cache is neither a failed read nor want of memory
other_cause : (f : CacheFault) → (cause.Cache f ≡ cause.Read) ⊎ (cause.Cache f ≡ cause.OutOfMemory) → ⊥
other_cause f (inl e) = cc
other_cause f (inr e) = cc

-- a lookup that stops for its cache doesn't stop for the length of the name
pub not_too_long : {X : Type 0} (s t : Stopped) (f : CacheFault) → t.cause ≡ cause.NameTooLong
    → ◌≡◌ {A = Result X Stopped} (Err s) (Err t) → s.cause ≡ cause.Cache f → ⊥
not_too_long s t f long same is =
    let all : s ≡ t = cc in
    let bad : cause.Cache f ≡ cause.NameTooLong = sym is ∙ (ap (λ (it : Stopped). it.cause) all ∙ long) in cc

-- which fault it is
fault_of_stop : (cache name : List ℕ) {NoContent : Type 0} (f : CacheFault) → IsStop (IsLookUpFault cache name NoContent) (cause.Cache f)
    → IsLookUpFault cache name ⊥ f
fault_of_stop cache name f (inl e) = absurd (other_cause f (inl e))
fault_of_stop cache name f (inr (inl e)) = absurd (other_cause f (inr e))
fault_of_stop cache name f (inr (inr (e, is, other, fault_is))) =
    subst (IsLookUpFault cache name ⊥) (sym (same f e is)) (fault_there e fault_is)
  where
    same : (f e : CacheFault) → cause.Cache f ≡ cause.Cache e → f ≡ e
    same f e is = cc

module _ {R : Type 0} (remaining : R → Option (List ℕ)) (health : R → Health) (path cache : List ℕ) (cost : Bool) (output : Output)
    (order : Order) (file : List ℕ) where
  -- a refusal is the run over a file that was looked up
  refused_run : (f : CacheFault) (text : List ℕ) (name_only : Bool) (stored : Stored) (content : Option R) → fits (name_for order file) ≡ true
      → RefusesLookup cache (name_for order file) f → text ≡ refusal path (cache_fault_name f)
      → IsContent remaining health name_only stored content
      → IsTypeLineBy name_only (lookup_by path name_only cost output order cache) stored file (stopped text silent)
  refused_run f text true stored content fit refuses is has =
      named (fits (name_for order file)) (written output file) _ _ fit (inr (f, refuses, ap (λ (t : List ℕ). stopped t silent) is))
  refused_run f text false stored None fit refuses is has = absurd has
  refused_run f text false nothing (Some reader) fit refuses is has = absurd has
  refused_run f text false folder (Some reader) fit refuses is has = absurd has
  refused_run f text false closed (Some reader) fit refuses is has = absurd has
  refused_run f text false dangling (Some reader) fit refuses is has = absurd has
  refused_run f text false (special kind) (Some reader) fit refuses is has = absurd has
  refused_run f text false unreadable (Some reader) fit refuses is has =
      named (fits (name_for order file)) (written output file) _ _ fit (inr (f, refuses, ap (λ (t : List ℕ). stopped t silent) is))
  refused_run f text false (bytes bs) (Some reader) fit refuses is has =
      named (fits (name_for order file)) (written output file) _ _ fit (inr (f, refuses, ap (λ (t : List ℕ). stopped t silent) is))
  refused_run f text false unknown (Some reader) fit refuses is has =
      inr (inr (named (fits (name_for order file)) (written output file) _ _ fit (inr (f, refuses, ap (λ (t : List ℕ). stopped t silent) is))))

  -- what stops for a fault of the cache
  looked_up : (s : Stop) → GivesOrRefuses {X = Unit {0}} path (RefusesLookup cache (name_for order file)) (λ _. ⊤) (Err s)
      → fits (name_for order file) ≡ true
      → (stored : Stored) (name_only : Bool) (content : Option R) → IsContent remaining health name_only stored content
      → LooksUpFile (lookup_by path name_only cost output order cache) stored file (Err s)
  looked_up stop.OutOfMemory p fit stored name_only content has = tt
  looked_up stop.CannotWrite p fit stored name_only content has = absurd p
  looked_up (stop.Refused m) p fit stored name_only content has =
      refused_run p.0 (string_bytes m) name_only stored content fit p.1 p.2 has

  -- a fault of the cache is the stop of a lookup
  pub line_refused : {NoContent : Type 0} (f : CacheFault) (s : Stop) (content : Option R) → IsCacheFaultStop path f s
      → fits (name_for order file) ≡ true
      → IsStop (IsLookUpFault cache (name_for order file) NoContent) (cause.Cache f)
      → ((b : PlainDatabase) → IsWithinLimits b → Spells cache b → Packed cache b
      → (cause.Cache f ≡ cause.Read) ⊎ (cause.Cache f ≡ cause.OutOfMemory))
      → (stored : Stored) (name_only : Bool) → IsContent remaining health name_only stored content
      → LooksUpFile (lookup_by path name_only cost output order cache) stored file (Err s)
  line_refused f s content stops fit is answers stored name_only has =
      looked_up s (refused_for (Unit {0}) path cache (IsLookUpFault cache (name_for order file) ⊥) IsWithinLimits (λ _. ⊤) f s stops
      (fault_of_stop cache (name_for order file) f is)
      (λ b limits spells packed. absurd (other_cause f (answers b limits spells packed)))) fit stored name_only content has
