-- What a search for a subclass promises over a cache of any bytes, and what C gets of it.
use Rattle.std.specs.Prelude.{◌≡◌, ◌⊎◌, ◌↔◌, ◌/◌, ℕ, ◌<◌, Bool, true, false, IsTrue, List, length, Result, Ok, Err}
use Rattle.std.specs.Prelude.{IfErr, IfOk, MatchResult}
use Rattle.mime_base.specs.Database.{PlainDatabase, pairs_of}
use Rattle.mime_base.specs.Database.Subclass.{IsA, resolved}
use Rattle.mime_base.specs.Format.Packed.{Packed}
use Rattle.mime_base.specs.Names.{is_type_name}
use Rattle.mime_base.specs.declared.meter.Meter.{Meter}
use Rattle.mime_c.specs.Report.{IsStatusAlone, IsStopReport, status_report}
use Rattle.mime_c.specs.Status.{status_answered, status_not_a_type, status_out_of_memory}
use Rattle.mime_c.specs.declared.report.Report.{Report}
use Rattle.mime_lookup.specs.Asking.{StopsAsking}
use Rattle.mime_lookup.specs.Bounds.{KeepsBounds}
use Rattle.mime_lookup.specs.Spelling.{SpellsPairs}
use Rattle.mime_lookup.specs.StepFaults.{IsSubclassFault}
use Rattle.mime_lookup.specs.declared.stopped.Cause.TheVariants as cause
use Rattle.mime_lookup.specs.declared.stopped.Stopped.{Stopped}
use Rattle.mime_view.specs.declared.fault.CacheFault.TheVariants.{Spent}

-- all that is promised of whether one type is another
pub record IsSubclassSearch (c kind base : List ℕ) (result : Result (Bool × Meter) Stopped) : Type 0 where
  pub answer : (b : PlainDatabase) → SpellsPairs c b → IfOk result
      (λ found. IsTrue found.0 ↔ IsA (pairs_of b) (resolved b.aliases kind) (resolved b.aliases base))
  pub stops : StopsAsking (λ stopped. stopped.cause) c (IsSubclassFault c) (λ b. SpellsPairs c b × Packed c b) result
  pub spent : IfErr result (λ stopped. stopped.cause ≡ cause.Cache Spent → length c / 4 < stopped.meter.nodes)
  pub read : IfErr result (λ stopped. stopped.read ≡ 0)
  pub bounds : MatchResult result (λ found. KeepsBounds 0 c 0 found.1) (λ stopped. KeepsBounds 0 c 0 stopped.meter)

-- an answer goes out; where the search stopped, what was there stays
abbrev pub IsSubclassReport : Result (Bool × Meter) Stopped → Bool → Bool → Report → Type 0
IsSubclassReport (Ok found) before after told = (after ≡ found.0) × (told ≡ status_report status_answered 0 found.1)
IsSubclassReport (Err stopped) before after told = (after ≡ before) × IsStopReport stopped.cause stopped.read stopped.meter told

-- what C gets of two type names
pub record IsSearched (c kind base : List ℕ) (before after : Bool) (told : Report) : Type 0 where
  pub outcome : Result (Bool × Meter) Stopped
  pub promised : IsSubclassSearch c kind base outcome
  pub told_so : IsSubclassReport outcome before after told

-- what C gets: of two type names an answer or why there is none; else that one of them is none; or memory was refused
pub data IsAsked (c kind base : List ℕ) (before after : Bool) (told : Report) : Type 0 where
  no_type : (is_type_name kind ≡ false) ⊎ (is_type_name base ≡ false) → after ≡ before → IsStatusAlone status_not_a_type told
      → IsAsked c kind base before after told
  no_memory : is_type_name kind ≡ true → after ≡ before → IsStatusAlone status_out_of_memory told → IsAsked c kind base before after told
  searched : is_type_name kind ≡ true → is_type_name base ≡ true → IsSearched c kind base before after told
      → IsAsked c kind base before after told
