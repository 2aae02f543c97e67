-- What the parts of a line give.
use Rattle.std.specs.Prelude.{◌≡◌, ℕ, Bool, true, false, List, [], Option, Some, None, IfSome, Result, Ok, Err, string_bytes}
use Rattle.mime_base.specs.Database.{plain_database}
use Rattle.mime_base.specs.declared.database.Database.{Database}
use Rattle.mime_lookup.specs.Content.{Health}
use Rattle.mime_request.specs.declared.request.Output.{Output}
use Rattle.mime_tool.specs.Files.{IsReaderOf, Stored}
use Rattle.mime_tool.specs.Finish.{Sinks}
use Rattle.mime_tool.specs.Line.{IsLineOf, IsLineOfKind, PlainLookup, cannot_open, too_long, with_inode}
use Rattle.mime_tool.specs.Output.{answer_of, written}
use Rattle.mime_tool.specs.Plain.{lookup_over}
use Rattle.mime_tool.specs.Run.{Run, cannot_read, printed, silent, stopped, unanswered}
use Rattle.mime_tool.specs.Types.{cost_tail, lookup_by}
use Rattle.mime_tool.specs.declared.line.Outcome.{Outcome}
use Rattle.mime_tool.specs.declared.line.Outcome.TheVariants as outcome
use Rattle.mime_tool.specs.declared.line.lookup.Cost.{Cost}
use Rattle.mime_tool.specs.declared.line.lookup.Lookup.{Lookup}
use Rattle.mime_tool.specs.declared.line.lookup.Data.{Data}
use Rattle.mime_tool.specs.declared.line.lookup.Data.TheVariants as data_of
use Rattle.mime_tool.specs.declared.preparing.Prepared.{Prepared}
use Rattle.mime_tool.specs.declared.stop.Stop.{Stop}
use Rattle.mime_tool.specs.declared.stop.Stop.TheVariants as stop

-- how FILEs are looked up in this data
abbrev pub lookup_in : Data → Lookup → PlainLookup
lookup_in (data_of.Database database) lookup = lookup_over lookup.name_only lookup.output lookup.order (plain_database database.now)
lookup_in (data_of.Indexed index) lookup = lookup_over lookup.name_only lookup.output lookup.order (plain_database index.now)
lookup_in (data_of.Magic magic) lookup = lookup_over lookup.name_only lookup.output lookup.order (plain_database magic.now)
lookup_in (data_of.Cache path bytes cost) lookup = lookup_by path.now lookup.name_only cost lookup.output lookup.order bytes.now
lookup_in (data_of.Opened path cache cost) lookup = lookup_by path.now lookup.name_only cost lookup.output lookup.order cache.now

-- what FILEs are looked up in: a database, or the path and the bytes of a cache, whose cost is told or not
pub data Source : Type 0 where
  whole : Database → Source
  cached : List ℕ → List ℕ → Bool → Source

-- of data, whether it was opened once for many FILEs, or its index was made, or not
abbrev pub source_of : Data → Source
source_of (data_of.Database database) = whole database.now
source_of (data_of.Indexed index) = whole index.now
source_of (data_of.Magic magic) = whole magic.now
source_of (data_of.Cache path bytes cost) = cached path.now bytes.now cost
source_of (data_of.Opened path cache cost) = cached path.now cache.now cost

-- the bytes of the cache in which FILEs are looked up
abbrev pub bytes_in : Data → List ℕ
bytes_in (data_of.Database database) = []
bytes_in (data_of.Indexed index) = []
bytes_in (data_of.Magic magic) = []
bytes_in (data_of.Cache path bytes cost) = bytes.now
bytes_in (data_of.Opened path cache cost) = cache.now

-- whether the cost of each answer is told
abbrev pub tells_cost : Data → Bool
tells_cost (data_of.Database database) = false
tells_cost (data_of.Indexed index) = false
tells_cost (data_of.Magic magic) = false
tells_cost (data_of.Cache path bytes cost) = cost
tells_cost (data_of.Opened path cache cost) = cost

-- What was opened is the cache in which FILEs are looked up, and the index is of the database, and so is the magic.
pub record IsOfSource (prepared : Prepared) : Type 0 where
  pub cache : IfSome prepared.cache (λ cache. cache ≡ bytes_in prepared.lookup.by)
  pub database : IfSome prepared.index (λ index. whole index ≡ source_of prepared.lookup.by)
  pub magic : IfSome prepared.magic (λ magic. whole magic ≡ source_of prepared.lookup.by)

-- Two lookups that are the same but for what was prepared.
pub record LooksAlike (a b : Lookup) : Type 0 where
  pub source : source_of a.by ≡ source_of b.by
  pub name_only : a.name_only ≡ b.name_only
  pub inode : a.inode ≡ b.inode
  pub order : a.order ≡ b.order
  pub output : a.output ≡ b.output

-- the plain value of a lookup
abbrev pub plain_lookup : Lookup → PlainLookup
plain_lookup lookup = with_inode lookup.inode (lookup_in lookup.by lookup)

-- what is told of a cost
abbrev pub tail_of_cost : Cost → List ℕ
tail_of_cost cost = cost_tail cost.is_told cost.meter cost.read

-- what is written of a file that comes to this, where its name is written so
abbrev pub run_of : Output → List ℕ → Outcome → Run
run_of output name (outcome.Typed kind cost) = printed (answer_of output name (written output kind.now) (tail_of_cost cost))
run_of output name outcome.CannotOpen = unanswered (cannot_open name)
run_of output name outcome.NameTooLong = unanswered (too_long name)
run_of output name outcome.CannotRead = unanswered (cannot_read name)

-- the content of a file, which is a reader of what is stored, or none where the name alone is asked for
abbrev pub IsContent : {R : Type 0} → (R → Option (List ℕ)) → (R → Health) → Bool → Stored → Option R → Type 0
IsContent remaining health true stored None = Unit {0}
IsContent remaining health true stored (Some reader) = ⊥
IsContent remaining health false stored None = ⊥
IsContent remaining health false stored (Some reader) = IsReaderOf remaining health stored reader

-- what is written of what a file comes to is its line, and so is the message of a refusal; or memory ran out
abbrev pub GivesLine : (Run → Type 0) → Output → List ℕ → Result Outcome Stop → Type 0
GivesLine IsLine output file (Ok o) = IsLine (run_of output (written output file) o)
GivesLine IsLine output file (Err (stop.Refused message)) = IsLine (stopped (string_bytes message) silent)
GivesLine IsLine output file (Err stop.CannotWrite) = ⊥
GivesLine IsLine output file (Err stop.OutOfMemory) = Unit {0}

-- what a file that is looked up comes to
abbrev pub LooksUpFile : PlainLookup → Stored → List ℕ → Result Outcome Stop → Type 0
LooksUpFile lookup stored file result = GivesLine (IsLineOfKind None lookup stored file) lookup.output file result

-- the same, and nothing is written yet
abbrev pub LooksUpHere : PlainLookup → Stored → List ℕ → Sinks → Sinks → Result Outcome Stop → Type 0
LooksUpHere lookup stored file old new result = (new ≡ old) × LooksUpFile lookup stored file result

-- what a file comes to, by its kind or looked up, and nothing is written yet
abbrev pub ComesTo : PlainLookup → Stored → List ℕ → Sinks → Sinks → Result Outcome Stop → Type 0
ComesTo lookup stored file old new result = (new ≡ old) × GivesLine (IsLineOf lookup stored file) lookup.output file result
