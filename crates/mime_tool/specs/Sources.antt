-- What is asked: a cache that is stored, or data directories: their database, or a cache that is made of it.
use Rattle.std.specs.Prelude.{◌≡◌, ◌⊎◌, ◌<◌, ◌≤◌, ℕ, List, [], Option, None, Result, Ok, Err, Vec}
use Rattle.std.specs.declared.alloc.Global.{Global}
use Rattle.mime_base.specs.Database.{PlainDatabase, plain_database}
use Rattle.mime_base.specs.Database.Limits.{IsWithinLimits}
use Rattle.mime_base.specs.declared.database.Database.{Database}
use Rattle.mime_base.specs.Format.Room.{room}
use Rattle.mime_base.specs.Format.Spells.{cache_limit}
use Rattle.mime_request.specs.Request.{PlainDirectories, PlainSource, cache_of, made_of}
use Rattle.mime_tool.specs.Build.{Fits, GivesCache, IsCacheOf, too_large}
use Rattle.mime_tool.specs.Cache.{GivesOrRefuses, IsCacheCommand}
use Rattle.mime_tool.specs.Desk.{ReadsWhole}
use Rattle.mime_tool.specs.Directories.{IsCommand, IsDatabaseOf}
use Rattle.mime_tool.specs.Environment.{PlainEnvironment}
use Rattle.mime_tool.specs.Files.{IsBytesOf, Stored}
use Rattle.mime_tool.specs.Finish.{Sinks}
use Rattle.mime_tool.specs.Loading.{Loads}
use Rattle.mime_tool.specs.Run.{Run, cut_short, silent, stopped}
use Rattle.mime_tool.specs.declared.sources.SourceData.{SourceData}
use Rattle.mime_tool.specs.declared.sources.SourceData.TheVariants as data_of
use Rattle.mime_tool.specs.declared.stop.Stop.{Stop}
use Rattle.mime_tool.specs.declared.stop.Stop.TheVariants as stop
use Rattle.mime_view.specs.declared.fault.CacheFault.{CacheFault}

-- the path of the cache, an empty one where it is made
abbrev pub path_of : PlainSource → List ℕ
path_of (cache_of path) = path
path_of (made_of dirs) = []

-- the run over a database that has to fit in a cache: there can be no cache; or there can, and IsOver says what the run is; or
-- memory ran out before that
abbrev pub IsOverFitting : (List (List ℕ) → Run → Type 0) → PlainDatabase → List (List ℕ) → Run → Type 0
IsOverFitting IsOver database files run =
    ((cache_limit < room database) × (run ≡ stopped too_large silent))
    ⊎ (((room database ≤ cache_limit) × IsOver files run)
    ⊎ (run ≡ cut_short))

-- the run of a command over the database of directories, which has to fit in a cache
abbrev pub IsFittingCommand : (List ℕ → Stored) → Option PlainEnvironment → PlainDirectories
    → (PlainDatabase → List (List ℕ) → Run → Type 0) → List (List ℕ) → Run → Type 0
IsFittingCommand stored environment dirs IsOver =
    IsCommand stored None environment dirs (λ database. IsOverFitting (IsOver database) database)

-- the run of a question: IsByCache says what a run is by a cache at a path, and IsByDatabase what it is by a database of directories
abbrev pub IsQuestion : (List ℕ → Stored) → Option PlainEnvironment → PlainSource
    → (List ℕ → List ℕ → List (List ℕ) → Run → Type 0) → (PlainDatabase → List (List ℕ) → Run → Type 0) → List (List ℕ) → Run → Type 0
IsQuestion stored environment (cache_of path) IsByCache IsByDatabase = IsCacheCommand stored path (IsByCache path)
IsQuestion stored environment (made_of dirs) IsByCache IsByDatabase = IsFittingCommand stored environment dirs IsByDatabase

-- the bytes are a cache such as `build` writes of the database
pub record IsMade (database : PlainDatabase) (cache : List ℕ) : Type 0 where
  pub within : IsWithinLimits database
  pub is : IsCacheOf database cache

-- the run over a database by a cache that is made of it; IsOver says what a run over files is by one
abbrev pub IsOverMade : (List ℕ → List (List ℕ) → Run → Type 0) → PlainDatabase → List (List ℕ) → Run → Type 0
IsOverMade IsOver database =
    IsOverFitting (λ files run. (cache : List ℕ) × IsMade database cache × IsOver cache files run) database

-- the run of a command over what is asked; IsOver says what a run over files is by a cache at a path
abbrev pub IsSourceCommand : (List ℕ → Stored) → Option PlainEnvironment → PlainSource
    → (List ℕ → List ℕ → List (List ℕ) → Run → Type 0) → List (List ℕ) → Run → Type 0
IsSourceCommand stored environment (cache_of path) IsOver = IsCacheCommand stored path (IsOver path)
IsSourceCommand stored environment (made_of dirs) IsOver = IsCommand stored None environment dirs (IsOverMade (IsOver []))

-- ---- how a cache is come by

-- the database of directories is loaded, as a plain value
abbrev pub LoadsData : (List ℕ → Stored) → Option PlainEnvironment → PlainDirectories → Sinks → Sinks → Result PlainDatabase Stop → Type 0
LoadsData stored environment dirs = Loads (λ database. database) (IsDatabaseOf stored None environment dirs)

-- a cache is made of directories; or they aren't loaded, or there can be no cache of them, or memory ran out
abbrev pub MakesCache : (List ℕ → Stored) → Option PlainEnvironment → PlainDirectories → Sinks → Sinks → Result (Vec ℕ Global) Stop → Type 0
MakesCache stored environment dirs old new (Ok cache) =
    (database : PlainDatabase) × LoadsData stored environment dirs old new (Ok database) × (room database ≤ cache_limit)
    × IsMade database cache.items
MakesCache stored environment dirs old new (Err s) =
    LoadsData stored environment dirs old new (Err s)
    ⊎ ((database : PlainDatabase) × LoadsData stored environment dirs old new (Ok database) × GivesCache database (Err s))

-- what is asked is read or made
abbrev pub ReadsSource : (List ℕ → Stored) → Option PlainEnvironment → PlainSource → Sinks → Sinks → Result (Vec ℕ Global) Stop → Type 0
ReadsSource stored environment (cache_of path) = ReadsWhole (IsBytesOf (stored path)) path
ReadsSource stored environment (made_of dirs) = MakesCache stored environment dirs

-- ---- how a database, or a cache that is stored, is come by

-- a database that fits in a cache is loaded; or none is loaded, or no cache can hold it, or memory ran out
abbrev pub LoadsFitting : (List ℕ → Stored) → Option PlainEnvironment → PlainDirectories → Sinks → Sinks → Result Database Stop → Type 0
LoadsFitting stored environment dirs old new (Ok database) =
    Loads plain_database (IsDatabaseOf stored None environment dirs) old new (Ok database) × (room (plain_database database) ≤ cache_limit)
LoadsFitting stored environment dirs old new (Err s) =
    Loads plain_database (IsDatabaseOf stored None environment dirs) old new (Err s)
    ⊎ ((database : Database) × Loads plain_database (IsDatabaseOf stored None environment dirs) old new (Ok database)
    × Fits (plain_database database) (Err s))

-- what is asked is read: a cache by its bytes, or directories by their database
abbrev pub ReadsData : (List ℕ → Stored) → Option PlainEnvironment → PlainSource → Sinks → Sinks → Result SourceData Stop → Type 0
ReadsData stored environment (cache_of path) old new (Ok (data_of.Cache at bytes)) =
    (at.now ≡ path) × ReadsWhole (IsBytesOf (stored path)) path old new (Ok bytes)
ReadsData stored environment (cache_of path) old new (Ok (data_of.Database database)) = ⊥
ReadsData stored environment (cache_of path) old new (Err s) = ReadsWhole (IsBytesOf (stored path)) path old new (Err s)
ReadsData stored environment (made_of dirs) old new (Ok (data_of.Cache at bytes)) = ⊥
ReadsData stored environment (made_of dirs) old new (Ok (data_of.Database database)) = LoadsFitting stored environment dirs old new (Ok database)
ReadsData stored environment (made_of dirs) old new (Err s) = LoadsFitting stored environment dirs old new (Err s)

-- the run by what was read
abbrev pub IsByData : (List ℕ → List ℕ → List (List ℕ) → Run → Type 0) → (PlainDatabase → List (List ℕ) → Run → Type 0) → SourceData
    → List (List ℕ) → Run → Type 0
IsByData IsByCache IsByDatabase (data_of.Cache path bytes) = IsByCache path.now bytes.items
IsByData IsByCache IsByDatabase (data_of.Database database) = IsByDatabase (plain_database database)

-- this is given, unless memory ran out
abbrev pub GivesOrRunsOut : {X : Type 0} → (X → Type 0) → Result X Stop → Type 0
GivesOrRunsOut IsGiven (Ok x) = IsGiven x
GivesOrRunsOut IsGiven (Err s) = s ≡ stop.OutOfMemory

-- something is given by what was read, of which a cache may be refused, unless memory ran out
abbrev pub GivesByData : {X : Type 0} → (List ℕ → CacheFault → Type 0) → (List ℕ → X → Type 0) → (PlainDatabase → X → Type 0)
    → SourceData → Result X Stop → Type 0
GivesByData IsRefusedFor IsByCache IsByDatabase (data_of.Cache path bytes) =
    GivesOrRefuses path.now (IsRefusedFor bytes.items) (IsByCache bytes.items)
GivesByData IsRefusedFor IsByCache IsByDatabase (data_of.Database database) = GivesOrRunsOut (IsByDatabase (plain_database database))
