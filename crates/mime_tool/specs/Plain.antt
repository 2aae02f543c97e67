-- What `plain` prints.
use Rattle.std.specs.Prelude.{◌≡◌, ◌⊎◌, ℕ, Bool, true, false, List, [], Option, Some, None}
use Rattle.mime_base.specs.Database.{PlainDatabase}
use Rattle.mime_base.specs.declared.magic.host.Host.TheVariants.{Little}
use Rattle.mime_lookup.specs.CheckingOrder.{Chooses, globs_suffice}
use Rattle.mime_lookup.specs.declared.order.Order.{Order}
use Rattle.mime_request.specs.Request.{PlainDirectories, PlainSubjects}
use Rattle.mime_request.specs.declared.request.Options.{Options}
use Rattle.mime_request.specs.declared.request.Output.{Output}
use Rattle.mime_tool.specs.Directories.{IsCommand}
use Rattle.mime_tool.specs.Files.{Stored}
use Rattle.mime_tool.specs.Line.{IsTypeLine, PlainLookup, asked_order, name_for, with_inode}
use Rattle.mime_tool.specs.Output.{type_line, written}
use Rattle.mime_tool.specs.Process.{PlainProcess}
use Rattle.mime_tool.specs.Run.{Run, cannot_read, printed, unanswered}
use Rattle.mime_tool.specs.Subjects.{AreSubjectRuns}

-- the line of a file, with a type that the checking order gives to its name and this content
abbrev pub IsTyped : Output → PlainDatabase → Order → Option (List ℕ) → List ℕ → Run → Type 0
IsTyped output database order content file run =
    (kind : List ℕ) × Chooses database (name_for order file) content Little order kind × (run ≡ printed (type_line output file kind []))

-- the run over a file whose reads all fail: its line, if the globs alone give its type
abbrev pub IsUnreadRun : Bool → Output → PlainDatabase → Order → List ℕ → Run → Type 0
IsUnreadRun true output database order file run = IsTyped output database order (Some []) file run
IsUnreadRun false output database order file run = run ≡ unanswered (cannot_read (written output file))

-- the run over a file of which nothing is known: a line with a type that the checking order gives to its name and some content; or
-- it can't be read, and the globs alone don't give its type
abbrev pub IsGuessed : Output → PlainDatabase → Order → List ℕ → Run → Type 0
IsGuessed output database order file run =
    ((content : List ℕ) × IsTyped output database order (Some content) file run)
    ⊎ ((globs_suffice database (name_for order file) order ≡ false) × (run ≡ unanswered (cannot_read (written output file))))

-- how FILEs are looked up over this data
abbrev pub lookup_over : Bool → Output → Order → PlainDatabase → PlainLookup
lookup_over name_only output order database = record {
  name_only = name_only;
  inode = false;
  free = [];
  output = output;
  name_of = name_for order;
  IsTyped = IsTyped output database order;
  IsUnread = λ file. IsUnreadRun (globs_suffice database (name_for order file) order) output database order file;
  IsGuessed = IsGuessed output database order;
}

-- the lines of what is looked up over this data with these options, where this is stored and standard input gives this
abbrev pub AreTypeLines : PlainSubjects → (List ℕ → Stored) → Stored → Options → PlainDatabase → List (List ℕ) → Run → Type 0
AreTypeLines subjects stored input options database =
    AreSubjectRuns subjects stored input (IsTypeLine (with_inode options.inode
    (lookup_over options.name_only options.output (asked_order options) database)))

-- the run of `plain` over these directories with these options, for what is looked up
abbrev pub IsPlain : (List ℕ → Stored) → PlainProcess → PlainDirectories → Options → PlainSubjects → List (List ℕ) → Run → Type 0
IsPlain stored process dirs options subjects =
    IsCommand stored None process.environment dirs (AreTypeLines subjects stored process.input options)
