-- What the words of a command line lead to.
use Rattle.std.specs.Prelude.{◌≡◌, ◌≢◌, ℕ, Bool, true, false, List, [], Result}
use Rattle.clap.specs.Kinds.{IsAmong}
use Rattle.clap.specs.declared.error.kind.ErrorKind.{ErrorKind}
use Rattle.clap.specs.declared.error.kind.ErrorKind.TheVariants as kind
use Rattle.mime_request.specs.Request.{PlainRequest, Meaning, asks, build, check, explain, icon, is_a, list, plain, refused, type_of}
use Rattle.mime_tool.specs.Build.{IsBuild, LeavesBuilt}
use Rattle.mime_tool.specs.Check.{IsCheck}
use Rattle.mime_tool.specs.Desk.{EndsOverFiles, State}
use Rattle.mime_tool.specs.Explain.{IsExplain}
use Rattle.mime_tool.specs.Files.{Stored, Writing}
use Rattle.mime_tool.specs.Icon.{IsIcon}
use Rattle.mime_tool.specs.IsA.{IsSubclassRun}
use Rattle.mime_tool.specs.List.{IsList}
use Rattle.mime_tool.specs.Plain.{IsPlain}
use Rattle.mime_tool.specs.Process.{PlainProcess}
use Rattle.mime_tool.specs.Run.{Run, printed}
use Rattle.mime_tool.specs.Subjects.{file_words, names_in}
use Rattle.mime_tool.specs.Types.{IsType}
use Rattle.mime_tool.specs.declared.stop.Stop.{Stop}

-- whether the error is help or the version, which were asked for
abbrev pub is_help : ErrorKind → Bool
is_help kind.DisplayHelp = true
is_help kind.DisplayVersion = true
is_help _ = false

-- help stands on standard output, with status 0; what is wrong with the words on standard error, with
-- status 2
abbrev pub shown : Bool → List ℕ → Run
shown true text = printed text
shown false text = record { status = 2; out = []; err = text }

-- some text is shown for an error of this kind
abbrev pub IsShown : ErrorKind → Run → Type 0
IsShown k run = (k ≢ kind.OutOfMemory) × ((text : List ℕ) × (run ≡ shown (is_help k) text))

-- the run of a request in this process, where this is known of replacing files, and this was stored and then that; a
-- command has a line here
abbrev pub IsAskedRun : PlainProcess → (List ℕ → List ℕ → Writing) → (List ℕ → Stored) → (List ℕ → Stored) → PlainRequest
    → List (List ℕ) → Run → Type 0
IsAskedRun process writes old new (build dirs drop_twins file) = IsBuild process.environment process.to_terminal dirs drop_twins file writes old new
IsAskedRun process writes old new (plain dirs options subjects) = IsPlain old process dirs options subjects
IsAskedRun process writes old new (list source) = IsList old process.environment source
IsAskedRun process writes old new (check source) = IsCheck old process.environment source
IsAskedRun process writes old new (explain source options files) = IsExplain old process.environment source options
IsAskedRun process writes old new (is_a source kind base) = IsSubclassRun old process.environment source kind base
IsAskedRun process writes old new (icon source kind) = IsIcon old process.environment source kind
IsAskedRun process writes old new (type_of source options subjects) = IsType old process source options subjects

-- the names that a request looks up in this process, where this is stored
abbrev pub asked_names : PlainProcess → (List ℕ → Stored) → PlainRequest → List (List ℕ)
asked_names process stored (plain _ _ subjects) = names_in subjects stored process.input
asked_names process stored (type_of _ _ subjects) = names_in subjects stored process.input
asked_names process stored (explain _ _ files) = files
asked_names process stored _ = []

-- the words of a request that are FILEs
abbrev pub asked_files : PlainRequest → List (List ℕ)
asked_files (plain _ _ subjects) = file_words subjects
asked_files (type_of _ _ subjects) = file_words subjects
asked_files (explain _ _ files) = files
asked_files _ = []

-- the run that the words ask for, or help, or what is wrong with them
abbrev pub IsAnswer : PlainProcess → (List ℕ → List ℕ → Writing) → (List ℕ → Stored) → (List ℕ → Stored) → Meaning
    → List (List ℕ) → Run → Type 0
IsAnswer process writes old new (asks a) = IsAskedRun process writes old new a
IsAnswer process writes old new (refused kinds) = λ _ run. (k : ErrorKind) × IsAmong k kinds × IsShown k run

-- the names that the words have looked up
abbrev pub names_of : PlainProcess → (List ℕ → Stored) → Meaning → List (List ℕ)
names_of process stored (asks a) = asked_names process stored a
names_of process stored (refused kinds) = []

-- what a request leaves stored: all that was, but for what `build` replaces
abbrev pub LeavesAsked : PlainProcess → PlainRequest → (List ℕ → Stored) → (List ℕ → Stored) → Type 0
LeavesAsked process (build dirs drop_twins file) old new = LeavesBuilt process.environment dirs drop_twins file old new
LeavesAsked process _ old new = new ≡ old

-- the same of words
abbrev pub LeavesFiles : PlainProcess → Meaning → (List ℕ → Stored) → (List ℕ → Stored) → Type 0
LeavesFiles process (asks a) old new = LeavesAsked process a old new
LeavesFiles process (refused kinds) old new = new ≡ old

-- the setting stays, the run that the words ask for is done, up to the message of a stop, and this is
-- left stored
pub record Answers (process : PlainProcess) (m : Meaning) (before after : State) (result : Result ℕ Stop) : Type 0 where
  pub same_setting : after.setting ≡ before.setting
  pub sinks : EndsOverFiles (IsAnswer process before.setting.writes before.stored after.stored m) (names_of process before.stored m) before.sinks after.sinks result
  pub leaves : LeavesFiles process m before.stored after.stored
