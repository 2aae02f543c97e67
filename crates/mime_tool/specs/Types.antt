-- What `type` prints.
use Rattle.std.specs.Prelude.{◌≡◌, ◌⊎◌, ℕ, Bool, true, false, List, [], ◌++◌, Option, Some, codes, decimal, length, ⊤}
use Rattle.mime_base.specs.Database.{PlainDatabase}
use Rattle.mime_base.specs.Database.Limits.{IsWithinLimits}
use Rattle.mime_base.specs.Format.Spells.{Spells}
use Rattle.mime_base.specs.declared.magic.host.Host.TheVariants.{Little}
use Rattle.mime_base.specs.declared.meter.Meter.{Meter}
use Rattle.mime_lookup.specs.Bounds.{KeepsBounds}
use Rattle.mime_lookup.specs.Cached.{IsKind}
use Rattle.mime_lookup.specs.CheckingOrder.{Chooses, globs_suffice, read_of}
use Rattle.mime_lookup.specs.StepFaults.{IsLookUpFault}
use Rattle.mime_lookup.specs.declared.order.Order.{Order}
use Rattle.mime_view.specs.declared.fault.CacheFault.{CacheFault}
use Rattle.mime_request.specs.Request.{PlainDirectories, PlainSource, PlainSubjects, cache_of, made_of}
use Rattle.mime_request.specs.declared.request.Options.{Options}
use Rattle.mime_request.specs.declared.request.Output.{Output}
use Rattle.mime_tool.specs.Cache.{IsAnsweredOr, IsCacheRefusal}
use Rattle.mime_tool.specs.Files.{Stored}
use Rattle.mime_tool.specs.Line.{IsTypeLine, PlainLookup, asked_order, name_for, with_inode}
use Rattle.mime_tool.specs.Output.{type_line, written}
use Rattle.mime_tool.specs.Plain.{AreTypeLines}
use Rattle.mime_tool.specs.Process.{PlainProcess}
use Rattle.mime_tool.specs.Run.{Run, cannot_read, printed, unanswered}
use Rattle.mime_tool.specs.Sources.{IsFittingCommand, IsSourceCommand}
use Rattle.mime_tool.specs.Subjects.{AreSubjectRuns}

-- what `--cost` reports of an answer: the records that were visited, the bytes that were compared, and those that were read
abbrev pub cost_text : Meter → ℕ → List ℕ
cost_text meter read =
    codes " nodes=" ++ (decimal meter.nodes ++ (codes " bytes=" ++ (decimal meter.bytes ++ (codes " read=" ++ decimal read))))

-- what is printed after a type, with `--cost` or without it
abbrev pub cost_tail : Bool → Meter → ℕ → List ℕ
cost_tail true meter read = cost_text meter read
cost_tail false meter read = []

-- `type` refuses the cache for this fault of a lookup of a name
abbrev pub RefusesLookup : List ℕ → List ℕ → CacheFault → Type 0
RefusesLookup cache name = IsCacheRefusal cache (IsLookUpFault cache name ⊥) IsWithinLimits

-- the line of a file: a type that the cache or the order has, and a cost within the bounds; where the cache spells a database,
-- IsSaid holds of it, the type and the bytes that were read
pub record IsLookUpLine (cache : List ℕ) (cost : Bool) (output : Output) (order : Order) (file : List ℕ) (IsSaid : PlainDatabase → List ℕ → ℕ → Type 0)
    (run : Run) : Type 0 where
  pub kind : List ℕ
  pub meter : Meter
  pub read : ℕ
  pub is_kind : IsKind cache kind
  pub bounds : KeepsBounds (length (name_for order file)) cache read meter
  pub spelled : (b : PlainDatabase) → IsWithinLimits b → Spells cache b → IsSaid b kind read
  pub is : run ≡ printed (type_line output file kind (cost_tail cost meter read))

-- the checking order gives the type to the name and this content, and reads that many bytes of it
abbrev pub IsChosen : Option (List ℕ) → Order → List ℕ → PlainDatabase → List ℕ → ℕ → Type 0
IsChosen content order file b kind read =
    Chooses b (name_for order file) content Little order kind × (read ≡ read_of b (name_for order file) content order)

-- the globs give the type alone
abbrev pub IsChosenByGlobs : Order → List ℕ → PlainDatabase → List ℕ → ℕ → Type 0
IsChosenByGlobs order file b kind read = (globs_suffice b (name_for order file) order ≡ true)
    × IsChosen (Some []) order file b kind read

-- the file can't be read, and no database that the cache spells gives its type by the globs alone
abbrev pub CannotBeRead : List ℕ → Output → Order → List ℕ → Run → Type 0
CannotBeRead cache output order file run =
    ((b : PlainDatabase) → IsWithinLimits b → Spells cache b → globs_suffice b (name_for order file) order ≡ false)
    × (run ≡ unanswered (cannot_read (written output file)))

-- how FILEs are looked up over the cache at this path
abbrev pub lookup_by : List ℕ → Bool → Bool → Output → Order → List ℕ → PlainLookup
lookup_by path name_only cost output order cache = record {
  name_only = name_only;
  inode = false;
  free = cost_tail cost (record { nodes = 0; bytes = 0 }) 0;
  output = output;
  name_of = name_for order;
  IsTyped = λ content file. IsAnsweredOr path (RefusesLookup cache (name_for order file))
      (IsLookUpLine cache cost output order file (IsChosen content order file));
  IsUnread = λ file. IsAnsweredOr path (RefusesLookup cache (name_for order file))
      (λ run. IsLookUpLine cache cost output order file (IsChosenByGlobs order file) run ⊎ CannotBeRead cache output order file run);
  IsGuessed = λ file. IsAnsweredOr path (RefusesLookup cache (name_for order file))
      (λ run. IsLookUpLine cache cost output order file (λ _ _ _. ⊤) run ⊎ CannotBeRead cache output order file run);
}

-- the lines of what is looked up by a cache at this path with these options, where this is stored and standard input gives this
abbrev pub AreLinesBy : PlainSubjects → (List ℕ → Stored) → Stored → Options → List ℕ → List ℕ → List (List ℕ) → Run → Type 0
AreLinesBy subjects stored input options path cache =
    AreSubjectRuns subjects stored input (IsTypeLine (with_inode options.inode
    (lookup_by path options.name_only options.cost options.output (asked_order options) cache)))

-- the run of `type` by a cache, which is stored or is made of directories
abbrev pub IsTypeByCache : (List ℕ → Stored) → PlainProcess → PlainSource → Options → PlainSubjects → List (List ℕ) → Run → Type 0
IsTypeByCache stored process source options subjects =
    IsSourceCommand stored process.environment source (AreLinesBy subjects stored process.input options)

-- the run of `type` over directories: by a cache that is made of them where costs are told, since a cost is that of a walk over
-- one; else the lines are those of their database, which has to fit in a cache
abbrev pub IsTypeOver : Bool → (List ℕ → Stored) → PlainProcess → PlainDirectories → Options → PlainSubjects → List (List ℕ) → Run → Type 0
IsTypeOver true stored process dirs options subjects = IsTypeByCache stored process (made_of dirs) options subjects
IsTypeOver false stored process dirs options subjects =
    IsFittingCommand stored process.environment dirs (AreTypeLines subjects stored process.input options)

-- the run of `type` over what is asked with these options, for what is looked up
abbrev pub IsType : (List ℕ → Stored) → PlainProcess → PlainSource → Options → PlainSubjects → List (List ℕ) → Run → Type 0
IsType stored process (cache_of path) options subjects = IsTypeByCache stored process (cache_of path) options subjects
IsType stored process (made_of dirs) options subjects = IsTypeOver options.cost stored process dirs options subjects
