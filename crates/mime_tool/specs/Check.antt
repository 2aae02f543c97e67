-- What `check` prints.
use Rattle.std.specs.Prelude.{◌≡◌, ◌≤◌, ◌⊎◌, ℕ, List, ◌++◌, Option, Result, Ok, Err, codes, decimal, length, ⊤}
use Rattle.mime_base.specs.Database.{PlainDatabase}
use Rattle.mime_base.specs.Database.Limits.{IsWithinLimits}
use Rattle.mime_base.specs.Format.Packed.{Packed, matchlet_count}
use Rattle.mime_base.specs.Format.Spells.{Spells, cache_limit}
use Rattle.mime_load.specs.FirstUnread.{IsFirstUnread}
use Rattle.mime_load.specs.Lent.{plain_lists}
use Rattle.mime_load.specs.declared.lists.Lists.{Lists}
use Rattle.mime_load.specs.declared.part.LoadFault.{LoadFault}
use Rattle.mime_load.specs.declared.part.LoadFault.TheVariants as fault
use Rattle.mime_load.specs.declared.part.Part.{Part}
use Rattle.mime_load.specs.declared.part.Part.TheVariants as part
use Rattle.mime_view.specs.Opening.{IsOpenFault}
use Rattle.mime_view.specs.declared.fault.CacheFault.{CacheFault}
use Rattle.mime_request.specs.Request.{PlainSource}
use Rattle.mime_tool.specs.Cache.{IsAnsweredOr, IsCacheRefusal}
use Rattle.mime_tool.specs.Environment.{PlainEnvironment}
use Rattle.mime_tool.specs.Files.{Stored}
use Rattle.mime_tool.specs.Run.{Run, printed, refusal, unanswered}
use Rattle.mime_tool.specs.Sources.{IsSourceCommand}
use Rattle.mime_tool.specs.declared.check.counts.Counts.{Counts}

-- how many there are of each list of a database, and of lines of magic at all depths
abbrev pub counts_of : PlainDatabase → Counts
counts_of b = record {
  rules = length b.rules;
  aliases = length b.aliases;
  subclasses = length b.parents;
  sections = length b.sections;
  lines = matchlet_count b.sections;
  icons = length b.icons;
  generic_icons = length b.generic_icons;
}

-- a line for each of rules, aliases and subclasses: its name, and how many there are
abbrev pub first_lines : Counts → List ℕ
first_lines counts =
    codes "rules " ++ (decimal counts.rules
    ++ (codes "\naliases " ++ (decimal counts.aliases
    ++ (codes "\nsubclasses " ++ (decimal counts.subclasses ++ codes "\n")))))

-- a line for each count
abbrev pub count_lines : Counts → List ℕ
count_lines counts =
    first_lines counts
    ++ (codes "sections " ++ (decimal counts.sections
    ++ (codes "\nlines " ++ (decimal counts.lines
    ++ (codes "\nicons " ++ (decimal counts.icons
    ++ (codes "\ngeneric-icons " ++ (decimal counts.generic_icons ++ codes "\n"))))))))

-- what is said of a cache of which this part is not read back
abbrev pub no_database : Part → List ℕ
no_database part.Header = codes "no database: header"
no_database part.Aliases = codes "no database: aliases"
no_database part.Subclasses = codes "no database: subclasses"
no_database part.Literals = codes "no database: literals"
no_database part.Suffixes = codes "no database: suffixes"
no_database part.Globs = codes "no database: globs"
no_database part.Magic = codes "no database: magic"
no_database part.Icons = codes "no database: icons"
no_database part.GenericIcons = codes "no database: generic icons"

-- a cache spells this database, has a byte for each that it needs, and the text files can spell it too
pub record IsReadBack (cache : List ℕ) (b : PlainDatabase) : Type 0 where
  pub spelled : Spells cache b
  pub packed : Packed cache b
  pub limits : IsWithinLimits b

-- A part of a cache isn't read back, and the cache spells no database.
pub record IsNoDatabase (cache : List ℕ) (part : Part) : Type 0 where
  -- The parts before it stand, and it stands nowhere in the room that they leave.
  pub first : IsFirstUnread cache part
  -- So no database is one that the cache spells, that has room and that the text files can spell.
  pub none : (b : PlainDatabase) → IsReadBack cache b → ⊥

-- what reading a cache back comes to: the lists that it spells, or the first part that isn't read back, or a want of memory
abbrev pub ReadsBack : List ℕ → Result Lists LoadFault → Type 0
ReadsBack cache (Ok lists) = IsReadBack cache (plain_lists lists)
ReadsBack cache (Err (fault.NoDatabase part)) = IsNoDatabase cache part
ReadsBack cache (Err fault.OutOfMemory) = ⊤

-- a database with no more rules and lines than a cache can have bytes
pub record IsFew (b : PlainDatabase) : Type 0 where
  pub rules : length b.rules ≤ cache_limit
  pub lines : matchlet_count b.sections ≤ cache_limit

-- `check` refuses the cache for this fault: it does not open
abbrev pub RefusesToOpen : List ℕ → CacheFault → Type 0
RefusesToOpen cache = IsCacheRefusal cache (IsOpenFault cache) (λ _. ⊤)

-- the run over a cache that was read back: the counts of its lists, or, with status 1, the part that is not read back
abbrev pub IsTold : List ℕ → Result Lists LoadFault → Run → Type 0
IsTold path (Ok lists) run = run ≡ printed (count_lines (counts_of (plain_lists lists)))
IsTold path (Err (fault.NoDatabase part)) run = run ≡ unanswered (refusal path (no_database part))
IsTold path (Err fault.OutOfMemory) run = ⊥

-- the run over a cache that opens: it is read back, and the lines are those of the database that it spells; or, with status 1, it
-- spells none, and the first part that is not read back is named
abbrev pub IsChecked : List ℕ → List ℕ → Run → Type 0
IsChecked path cache run =
    ((b : PlainDatabase) × IsReadBack cache b × (run ≡ printed (count_lines (counts_of b))))
    ⊎ ((part : Part) × IsNoDatabase cache part × (run ≡ unanswered (refusal path (no_database part))))

-- the run of `check` over a cache that lies at this path
abbrev pub IsCheckOver : List ℕ → List ℕ → List (List ℕ) → Run → Type 0
IsCheckOver path cache files run = IsAnsweredOr path (RefusesToOpen cache) (IsChecked path cache) run

-- the run of `check`
abbrev pub IsCheck : (List ℕ → Stored) → Option PlainEnvironment → PlainSource → List (List ℕ) → Run → Type 0
IsCheck stored environment source = IsSourceCommand stored environment source IsCheckOver
