-- What `build` stores, and what it says.
use Rattle.std.specs.Prelude.{◌≡◌, ◌≢◌, ◌⊎◌, ◌<◌, ◌≤◌, ℕ, Bool, true, false, if◌then◌else◌, List, [], ◌++◌, Option, Some, None}
use Rattle.std.specs.Prelude.{Result, Ok, Err, Vec, codes, length, string_bytes}
use Rattle.std.specs.Str.{bytes_eq}
use Rattle.std.specs.declared.alloc.Global.{Global}
use Rattle.mime_base.specs.Database.{PlainDatabase}
use Rattle.mime_base.specs.Format.Packed.{Packed}
use Rattle.mime_base.specs.Format.Room.{room}
use Rattle.mime_base.specs.Format.Spells.{Spells, cache_limit}
use Rattle.mime_text.specs.Merging.{twinless_database}
use Rattle.mime_tool.specs.Desk.{EndsOverFiles, State}
use Rattle.mime_request.specs.Request.{PlainDirectories}
use Rattle.mime_tool.specs.Directories.{IsCommand, IsDatabaseOf}
use Rattle.mime_tool.specs.Environment.{PlainEnvironment}
use Rattle.mime_tool.specs.Files.{Replaced, Stored, Untouched, Writing, fails, succeeds}
use Rattle.mime_tool.specs.Run.{Run, cannot_write, cut_short, printed, silent, stopped, stops}
use Rattle.mime_tool.specs.declared.stop.Stop.{Stop}
use Rattle.mime_tool.specs.declared.stop.Stop.TheVariants as stop

-- the file by which the cache comes
abbrev pub temp_of : List ℕ → List ℕ
temp_of file = file ++ codes ".new"

-- what is known of replacing the file by a cache
abbrev pub writing_of : (List ℕ → List ℕ → Writing) → List ℕ → Writing
writing_of writes file = writes file (codes ".new")

-- what is written of a database: all of it, or all but the twins of case-sensitive rules
abbrev pub written_of : Bool → PlainDatabase → PlainDatabase
written_of drop_twins database = if drop_twins then twinless_database database else database

-- the message on a database that no cache can hold
abbrev pub too_large : List ℕ
too_large = codes "mimelook: database too large\n"

-- the bytes are a cache of the database, and no longer than its room
pub record IsCacheOf (database : PlainDatabase) (cache : List ℕ) : Type 0 where
  pub spells : Spells cache database
  pub packed : Packed cache database
  pub long : length cache ≤ room database

-- the database fits in a cache, and one took the place of the file
abbrev pub IsBuilt : List ℕ → (List ℕ → Stored) → (List ℕ → Stored) → PlainDatabase → Type 0
IsBuilt file old new database =
    (room database ≤ cache_limit)
    × ((cache : List ℕ) × IsCacheOf database cache × Replaced (temp_of file) file cache old new)

-- the cache can't be written, which isn't known to succeed: the file is as it was
abbrev pub IsUnwritten : List ℕ → Writing → (List ℕ → Stored) → (List ℕ → Stored) → PlainDatabase → Run → Type 0
IsUnwritten file writing old new database run =
    (room database ≤ cache_limit) × (writing ≢ succeeds) × Untouched (temp_of file) old new × (run ≡ stopped (cannot_write file) silent)

-- the run over a database, by what is known of replacing the file, and what was stored and is then: there can be no
-- cache; or it can't be written; or it takes the place of the file, which isn't known to fail, and nothing is said; or
-- memory ran out before that, and the file is as it was
abbrev pub IsBuildOver : List ℕ → Writing → (List ℕ → Stored) → (List ℕ → Stored) → PlainDatabase → Run → Type 0
IsBuildOver file writing old new database run =
    ((cache_limit < room database) × (new ≡ old) × (run ≡ stopped too_large silent))
    ⊎ (IsUnwritten file writing old new database run
    ⊎ ((IsBuilt file old new database × (writing ≢ fails) × (run ≡ silent))
    ⊎ (Untouched (temp_of file) old new × (run ≡ cut_short))))

-- the run of `build` to a file over these directories, with their twins or without; where they have no text file and the file is
-- there, that stops, and where it stops, the file is as it was
abbrev pub IsReplaced : Option PlainEnvironment → PlainDirectories → Bool → List ℕ → (List ℕ → List ℕ → Writing) → (List ℕ → Stored)
    → (List ℕ → Stored) → List (List ℕ) → Run → Type 0
IsReplaced environment dirs drop_twins file writes old new files run =
    IsCommand old (Some file) environment dirs
    (λ database _. IsBuildOver file (writing_of writes file) old new (written_of drop_twins database)) files run
    × (stops run ≡ true → Untouched (temp_of file) old new)

-- the message where standard output is a terminal
abbrev pub no_terminal : List ℕ
no_terminal = codes "mimelook: no cache is written to a terminal\n"

-- the run over a database whose cache is printed: there can be none; or it is printed; or memory ran out before that
abbrev pub IsPrintOver : PlainDatabase → Run → Type 0
IsPrintOver database run =
    ((cache_limit < room database) × (run ≡ stopped too_large silent))
    ⊎ (((room database ≤ cache_limit) × ((cache : List ℕ) × IsCacheOf database cache × (run ≡ printed cache)))
    ⊎ (run ≡ cut_short))

-- the run of `build` to standard output, which is a terminal or isn't
abbrev pub IsPrinted : Bool → (List ℕ → Stored) → Option PlainEnvironment → PlainDirectories → Bool → List (List ℕ) → Run → Type 0
IsPrinted true stored environment dirs drop_twins files run = run ≡ stopped no_terminal silent
IsPrinted false stored environment dirs drop_twins files run =
    IsCommand stored None environment dirs (λ database _. IsPrintOver (written_of drop_twins database)) files run

-- whether a file stands for standard output: a hyphen does
abbrev pub is_output : List ℕ → Bool
is_output file = bytes_eq file (codes "-")

-- the run of `build`, to standard output or to a file
abbrev pub IsBuildWhere : Bool → Option PlainEnvironment → Bool → PlainDirectories → Bool → List ℕ → (List ℕ → List ℕ → Writing)
    → (List ℕ → Stored) → (List ℕ → Stored) → List (List ℕ) → Run → Type 0
IsBuildWhere true environment to_terminal dirs drop_twins file writes old new = IsPrinted to_terminal old environment dirs drop_twins
IsBuildWhere false environment to_terminal dirs drop_twins file writes old new = IsReplaced environment dirs drop_twins file writes old new

-- the run of `build` with this file
abbrev pub IsBuild : Option PlainEnvironment → Bool → PlainDirectories → Bool → List ℕ → (List ℕ → List ℕ → Writing)
    → (List ℕ → Stored) → (List ℕ → Stored) → List (List ℕ) → Run → Type 0
IsBuild environment to_terminal dirs drop_twins file = IsBuildWhere (is_output file) environment to_terminal dirs drop_twins file

-- what `build` may leave stored, however it ends: all that was, where the cache is printed; else the file is as it was, or it is a
-- cache of the database of these directories, with its twins or without
abbrev pub LeavesWhere : Bool → Option PlainEnvironment → PlainDirectories → Bool → List ℕ → (List ℕ → Stored) → (List ℕ → Stored) → Type 0
LeavesWhere true environment dirs drop_twins file old new = new ≡ old
LeavesWhere false environment dirs drop_twins file old new =
    Untouched (temp_of file) old new
    ⊎ ((database : PlainDatabase) × (messages : List ℕ) × IsDatabaseOf old (Some file) environment dirs (Some database) messages
    × IsBuilt file old new (written_of drop_twins database))

-- the same of a build with this file
abbrev pub LeavesBuilt : Option PlainEnvironment → PlainDirectories → Bool → List ℕ → (List ℕ → Stored) → (List ℕ → Stored) → Type 0
LeavesBuilt environment dirs drop_twins file = LeavesWhere (is_output file) environment dirs drop_twins file

-- ---- the parts of `build`

-- something is given of a database that fits in a cache, or the message that it doesn't, unless memory ran out
abbrev pub GivesFitting : {X : Type 0} → PlainDatabase → (X → Type 0) → Result X Stop → Type 0
GivesFitting database IsGiven (Ok x) = IsGiven x × (room database ≤ cache_limit)
GivesFitting database IsGiven (Err (stop.Refused text)) = (string_bytes text ≡ too_large) × (cache_limit < room database)
GivesFitting database IsGiven (Err stop.CannotWrite) = ⊥
GivesFitting database IsGiven (Err stop.OutOfMemory) = Unit {0}

-- a cache of the database is given
abbrev pub GivesCache : PlainDatabase → Result (Vec ℕ Global) Stop → Type 0
GivesCache database = GivesFitting database (λ cache. IsCacheOf database cache.items)

-- the database fits in a cache, and no more is given
abbrev pub Fits : PlainDatabase → Result (Unit {0}) Stop → Type 0
Fits database = GivesFitting database (λ _. Unit {0})

-- what the run over a database leaves stored
abbrev pub LeavesOver : List ℕ → (List ℕ → Stored) → (List ℕ → Stored) → PlainDatabase → Result ℕ Stop → Type 0
LeavesOver file old new database (Ok status) = IsBuilt file old new database
LeavesOver file old new database (Err s) = Untouched (temp_of file) old new

-- the run over a database, up to the message of a stop
pub record BuildsOver (database : PlainDatabase) (file : List ℕ) (before after : State) (result : Result ℕ Stop) : Type 0 where
  pub same_setting : after.setting ≡ before.setting
  pub can_be : (run : Run) × IsBuildOver file (writing_of before.setting.writes file) before.stored after.stored database run
  pub sinks :
      EndsOverFiles (λ _. IsBuildOver file (writing_of before.setting.writes file) before.stored after.stored database) [] before.sinks
      after.sinks result
  pub leaves : LeavesOver file before.stored after.stored database result

-- the run of `build` to standard output or to a file, up to the message of a stop
pub record BuildsWhere (output : Bool) (environment : Option PlainEnvironment) (to_terminal : Bool) (dirs : PlainDirectories)
    (drop_twins : Bool) (file : List ℕ) (before after : State) (result : Result ℕ Stop) : Type 0 where
  pub same_setting : after.setting ≡ before.setting
  pub sinks :
      EndsOverFiles (IsBuildWhere output environment to_terminal dirs drop_twins file before.setting.writes before.stored after.stored) []
      before.sinks after.sinks result
  pub leaves : LeavesWhere output environment dirs drop_twins file before.stored after.stored

-- the run of `build` with this file
abbrev pub Builds : Option PlainEnvironment → Bool → PlainDirectories → Bool → List ℕ → State → State → Result ℕ Stop → Type 0
Builds environment to_terminal dirs drop_twins file = BuildsWhere (is_output file) environment to_terminal dirs drop_twins file
