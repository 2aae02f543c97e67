-- From what is asked, read or made, and a run over it, to the run of a command.
use Rattle.std.proofs.Common.{ℕ, ◌≤◌, List, [], inl, inr, None, Option, Result, Ok, Err, Vec, ap, refl}
use Rattle.std.specs.declared.alloc.Global.{Global}
use Rattle.mime_base.specs.Database.{PlainDatabase, plain_database}
use Rattle.mime_base.specs.Database.Limits.{IsWithinLimits}
use Rattle.mime_base.specs.declared.database.Database.{Database}
use Rattle.mime_request.specs.Request.{PlainDirectories, PlainSource, cache_of, made_of}
use Rattle.mime_base.specs.Format.Room.{room}
use Rattle.mime_base.specs.Format.Spells.{cache_limit}
use Rattle.mime_tool.specs.Build.{GivesCache, GivesFitting, IsCacheOf}
use Rattle.mime_tool.specs.Desk.{EndsOverFiles, State, Works}
use Rattle.mime_tool.specs.Directories.{IsDatabaseOf}
use Rattle.mime_tool.specs.Environment.{PlainEnvironment}
use Rattle.mime_tool.specs.Files.{Stored}
use Rattle.mime_tool.specs.Finish.{Sinks}
use Rattle.mime_tool.specs.Loading.{Loads}
use Rattle.mime_tool.specs.Run.{Run, cut_short, silent, stopped}
use Rattle.mime_tool.specs.Sources.{IsMade, IsOverFitting, IsOverMade, IsSourceCommand, MakesCache, ReadsSource, path_of}
use Rattle.mime_tool.specs.declared.stop.Stop.{Stop}
use Rattle.mime_tool.specs.declared.stop.Stop.TheVariants as stop
use Rattle.mime_tool.proofs.CacheLemmas.Caches.{OverCache, cache_read, cache_unread}
use Rattle.mime_tool.proofs.RunLemmas.Commands.{command_over, command_unloaded}
use Rattle.mime_tool.proofs.RunLemmas.Ends.{writes_nothing}
use Rattle.mime_tool.proofs.RunLemmas.Programs.{ends_weaker}

-- what a run over files is, by a cache at a path
abbrev pub OverSource : Type 1
OverSource = List ℕ → OverCache

-- a run over files
abbrev pub OverFiles : Type 1
OverFiles = List (List ℕ) → Run → Type 0

-- memory may run out before it is known whether a database fits
pub fitting_cut : (IsOver : OverFiles) (database : PlainDatabase) → (run : Run) × IsOverFitting IsOver database [] run
fitting_cut IsOver database = (cut_short, inr (inr refl))

-- it doesn't fit, or memory ran out
pub unfitting : (X : Type 0) (IsGiven : X → Type 0) (IsOver : OverFiles) (database : PlainDatabase) (files : List (List ℕ)) (a : Sinks)
    (s : Stop) → GivesFitting database IsGiven (Err s) → EndsOverFiles (IsOverFitting IsOver database) files a a (Err s)
unfitting X IsGiven IsOver database files a stop.OutOfMemory p = inl (writes_nothing a)
unfitting X IsGiven IsOver database files a stop.CannotWrite p = absurd p
unfitting X IsGiven IsOver database files a (stop.Refused m) p =
    (silent, inl (p.1, ap (λ (t : List ℕ). stopped t silent) p.0), writes_nothing a)

-- it fits, and a run over it comes to its end
pub ends_fitting : (IsOver : OverFiles) (database : PlainDatabase) (files : List (List ℕ)) (a b : Sinks) (r : Result ℕ Stop)
    → room database ≤ cache_limit → EndsOverFiles IsOver files a b r → EndsOverFiles (IsOverFitting IsOver database) files a b r
ends_fitting IsOver database files a b r fits p =
    ends_weaker IsOver (IsOverFitting IsOver database) files a b r (λ fs run is. inr (inl (fits, is))) p

-- what a run is by a cache that is made
abbrev by_made : OverCache → PlainDatabase → OverFiles
by_made IsOver database files run = (cache : List ℕ) × IsMade database cache × IsOver cache files run

-- what is asked isn't read or made
pub source_unread : (stored : List ℕ → Stored) (e : Option PlainEnvironment) (source : PlainSource) (IsOver : OverSource)
    (files : List (List ℕ)) (a b : Sinks) (s : Stop) → ReadsSource stored e source a b (Err s)
    → EndsOverFiles (IsSourceCommand stored e source IsOver) files a b (Err s)
source_unread stored e (cache_of path) IsOver files a b s p = cache_unread stored path (IsOver path) files a b s p
source_unread stored e (made_of dirs) IsOver files a b s (inl p) =
    command_unloaded PlainDatabase (λ d. d) stored None e dirs (IsOverMade (IsOver [])) files a b s
    (λ database. fitting_cut (by_made (IsOver []) database) database) p
source_unread stored e (made_of dirs) IsOver files a b s (inr p) =
    command_over PlainDatabase (λ d. d) stored None e dirs (IsOverMade (IsOver [])) files p.0 a b b (Err s)
    (fitting_cut (by_made (IsOver []) p.0) p.0) p.1
    (unfitting (Vec ℕ Global) (λ cache. IsCacheOf p.0 cache.items) (by_made (IsOver []) p.0) p.0 files b s p.2)

-- it is, and a run over it comes to its end
pub source_read : (stored : List ℕ → Stored) (e : Option PlainEnvironment) (source : PlainSource) (IsOver : OverSource)
    (files : List (List ℕ)) (v : Vec ℕ Global) (a b c : Sinks) (r : Result ℕ Stop) → ReadsSource stored e source a b (Ok v)
    → EndsOverFiles (IsOver (path_of source) v.items) files b c r → EndsOverFiles (IsSourceCommand stored e source IsOver) files a c r
source_read stored e (cache_of path) IsOver files v a b c r p q = cache_read stored path (IsOver path) files v a b c r p q
source_read stored e (made_of dirs) IsOver files v a b c r p q =
    command_over PlainDatabase (λ d. d) stored None e dirs (IsOverMade (IsOver [])) files p.0 a b c r
    (fitting_cut (by_made (IsOver []) p.0) p.0) p.1
    (ends_fitting (by_made (IsOver []) p.0) p.0 files b c r p.2
    (ends_weaker (IsOver [] v.items) (by_made (IsOver []) p.0) files b c r (λ fs run is. (v.items, p.3, is)) q))

-- ---- how a cache is made

-- a stop says the same of what is loaded as a plain value
loads_plain : (X : Type 0) (plain : X → PlainDatabase) (IsStep : Option PlainDatabase → List ℕ → Type 0) (a b : Sinks) (s : Stop)
    → Loads plain IsStep a b (Err s) → Loads {X = PlainDatabase} (λ d. d) IsStep a b (Err s)
loads_plain X plain IsStep a b stop.OutOfMemory p = p
loads_plain X plain IsStep a b stop.CannotWrite p = p
loads_plain X plain IsStep a b (stop.Refused m) p = p

-- the database isn't loaded
pub make_unloaded : (e : Option PlainEnvironment) (dirs : PlainDirectories) (a b : State) (s : Stop)
    → Works (Loads plain_database (IsDatabaseOf a.stored None e dirs)) a b (Err s) → Works (MakesCache a.stored e dirs) a b (Err s)
make_unloaded e dirs a b s p = record {
  same_files = p.same_files;
  same_setting = p.same_setting;
  sinks = inl (loads_plain Database plain_database (IsDatabaseOf a.stored None e dirs) a.sinks b.sinks s p.sinks);
}

-- there can be no cache
pub make_refused : (e : Option PlainEnvironment) (dirs : PlainDirectories) (a b : State) (database : Database) (s : Stop)
    → Works (Loads plain_database (IsDatabaseOf a.stored None e dirs)) a b (Ok database) → GivesCache (plain_database database) (Err s)
    → Works (MakesCache a.stored e dirs) a b (Err s)
make_refused e dirs a b database s p g = record {
  same_files = p.same_files;
  same_setting = p.same_setting;
  sinks = inr (plain_database database, p.sinks, g);
}

-- there is one
pub make_made : (e : Option PlainEnvironment) (dirs : PlainDirectories) (a b : State) (database : Database) (v : Vec ℕ Global)
    → Works (Loads plain_database (IsDatabaseOf a.stored None e dirs)) a b (Ok database) → IsWithinLimits (plain_database database)
    → GivesCache (plain_database database) (Ok v) → Works (MakesCache a.stored e dirs) a b (Ok v)
make_made e dirs a b database v p limits g = record {
  same_files = p.same_files;
  same_setting = p.same_setting;
  sinks = (plain_database database, p.sinks, g.1, record { within = limits; is = g.0 });
}
