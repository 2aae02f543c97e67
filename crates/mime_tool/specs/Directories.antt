-- What the text files of data directories give, and the messages on them.
use Rattle.std.specs.Prelude.{◌≡◌, ◌⊎◌, ℕ, Bool, true, false, List, [], ◌∷◌, ◌++◌, Option, Some, None, codes, decimal}
use Rattle.std.specs.List.{flat_map, join_by}
use Rattle.mime_base.specs.Database.{PlainDatabase}
use Rattle.mime_base.specs.Database.PlainPairs.{plain_icons, plain_pairs}
use Rattle.mime_base.specs.Magic.{PlainSection, plain_sections}
use Rattle.mime_base.specs.declared.database.rule.GlobRule.{GlobRule}
use Rattle.mime_text.specs.DirTexts.{SaysMagic}
use Rattle.mime_text.specs.Lines.{HasJust, skipped_of}
use Rattle.mime_text.specs.Lines.Globs2.{is_malformed_rule, markers_of, rules_of}
use Rattle.mime_text.specs.Lines.Icons.{icons_in, is_malformed_icon}
use Rattle.mime_text.specs.Lines.Pairs.{is_malformed_pair, pairs_in}
use Rattle.mime_text.specs.Magic.Reading.{magic_fault}
use Rattle.mime_text.specs.Merging.{PlainDir, merged, visible_database}
use Rattle.mime_text.specs.declared.magic.fault.MagicFault.{MagicFault}
use Rattle.mime_text.specs.declared.magic.fault.MagicFault.TheVariants as fault
use Rattle.mime_text.specs.declared.magic.fault.MagicFaultKind.{MagicFaultKind}
use Rattle.mime_text.specs.declared.magic.fault.MagicFaultKind.TheVariants as kind
use Rattle.mime_text.specs.declared.magic.file.MagicFile.{MagicFile}
use Rattle.mime_request.specs.Request.{PlainDirectories, named, user}
use Rattle.mime_tool.specs.Environment.{PlainEnvironment, user_directories}
use Rattle.mime_tool.specs.Files.{IsTextOf, IsThere, Stored}
use Rattle.mime_tool.specs.Loading.{◌>>=◌, Gives}
use Rattle.mime_tool.specs.Run.{Run, cannot_read, joined, not_replaced, refusal, said, silent, stopped}
use Rattle.mime_tool.specs.Stop.{IsRefusal}
use Rattle.mime_tool.specs.declared.stop.Stop.{Stop}
use Rattle.mime_tool.specs.declared.stop.Stop.TheVariants as stop

-- ---- one file

-- where a file of a directory lies
abbrev pub path_of : List ℕ → List ℕ → List ℕ
path_of dir name = dir ++ (codes "/mime/" ++ name)

-- what is said where there is no text at this path
abbrev pub unread : List ℕ → Option (List ℕ) → List ℕ
unread path None = cannot_read path
unread path (Some text) = []

-- the text of the file at this path, an empty one where it is missing; or it can't be read
abbrev pub IsTextAt : (List ℕ → Stored) → List ℕ → Option (List ℕ) → List ℕ → Type 0
IsTextAt stored path text messages = IsTextOf (stored path) text × (messages ≡ unread path text)

-- ---- files of lines

-- the message on a malformed line, by its number
abbrev pub ignored : List ℕ → ℕ → List ℕ
ignored path number = codes "mimelook: " ++ (path ++ (codes ": line " ++ (decimal number ++ codes " ignored\n")))

-- what is said of the malformed lines of a text, which lies at this path
abbrev pub all_ignored : (List ℕ → Bool) → List ℕ → List ℕ → List ℕ
all_ignored is_malformed path text = flat_map (ignored path) (skipped_of is_malformed text)

-- what the text spells, with the messages on its malformed lines; Spells says what a text spells
abbrev pub AreFileLines : {X : Type 0} → (List ℕ → X → Type 0) → (List ℕ → Bool) → List ℕ → List ℕ → Option X → List ℕ → Type 0
AreFileLines Spells is_malformed path text None messages = ⊥
AreFileLines Spells is_malformed path text (Some x) messages = Spells text x × (messages ≡ all_ignored is_malformed path text)

-- what the file of lines at this path spells
abbrev pub AreLinesAt : {X : Type 0} → (List ℕ → X → Type 0) → (List ℕ → Bool) → (List ℕ → Stored) → List ℕ → Option X → List ℕ → Type 0
AreLinesAt Spells is_malformed stored path = IsTextAt stored path >>= AreFileLines Spells is_malformed path

-- the rules of a text of globs2, and the types of its markers
abbrev pub AreGlobs : List ℕ → List GlobRule × List (List ℕ) → Type 0
AreGlobs text globs = (globs.0 ≡ rules_of text) × HasJust globs.1 (markers_of text)

-- the pairs of a text of aliases or subclasses
abbrev pub ArePairs : List ℕ → List (List ℕ × List ℕ) → Type 0
ArePairs text pairs = pairs ≡ plain_pairs (pairs_in text)

-- the icons of a text of icons or generic-icons
abbrev pub AreIcons : List ℕ → List (List ℕ × List ℕ) → Type 0
AreIcons text icons = icons ≡ plain_icons (icons_in text)

-- ---- the file magic

-- what the message on a fault calls it
abbrev pub magic_fault_name : MagicFaultKind → List ℕ
magic_fault_name kind.NoHeader = codes "no header"
magic_fault_name kind.Truncated = codes "truncated"
magic_fault_name kind.BadSection = codes "bad section"
magic_fault_name kind.BadNumber = codes "bad number"
magic_fault_name kind.BadWord = codes "bad word"
magic_fault_name kind.BadIndent = codes "bad indent"
magic_fault_name kind.TooDeep = codes "too deep"

-- the message on a fault of this name at this offset
abbrev pub faulty_at : List ℕ → List ℕ → ℕ → List ℕ
faulty_at path name at =
    codes "mimelook: " ++ (path ++ (codes ": magic " ++ (name ++ (codes " at " ++ (decimal at ++ codes "\n")))))

-- the message on the first fault of a text of magic, which lies at this path
abbrev pub faulty : List ℕ → MagicFault → List ℕ
faulty path (fault.Malformed kind offset) = faulty_at path (magic_fault_name kind) offset
faulty path fault.OutOfMemory = []

-- what stops at a fault: its message, or that memory ran out
abbrev pub IsMagicFaultStop : List ℕ → MagicFault → Stop → Type 0
IsMagicFaultStop path (fault.Malformed kind offset) s = IsRefusal (faulty_at path (magic_fault_name kind) offset) s
IsMagicFaultStop path fault.OutOfMemory s = s ≡ stop.OutOfMemory

-- a file magic of the code
abbrev pub plain_magic : MagicFile → List PlainSection × List (List ℕ)
plain_magic file = (plain_sections file.sections.items, file.deleted.items)

-- the sections that a text of magic spells, and the types that it deletes
abbrev pub IsMagic : List ℕ → List PlainSection × List (List ℕ) → Type 0
IsMagic text magic = SaysMagic text magic.0 magic.1

-- what a text of magic spells; or it has a fault, and that stops
abbrev pub IsMagicOrFault : List ℕ → List ℕ → Option (List PlainSection × List (List ℕ)) → List ℕ → Type 0
IsMagicOrFault path text None messages =
    (f : MagicFault) × (magic_fault text ≡ Some f) × (messages ≡ faulty path f)
IsMagicOrFault path text (Some magic) messages = IsMagic text magic × (messages ≡ [])

-- what the file magic at this path spells
abbrev pub IsMagicAt : (List ℕ → Stored) → List ℕ → Option (List PlainSection × List (List ℕ)) → List ℕ → Type 0
IsMagicAt stored path = IsTextAt stored path >>= IsMagicOrFault path

-- ---- directories

-- what the six files of a directory give, in the order in which they are read
unfoldable pub IsDirectory : (List ℕ → Stored) → List ℕ → Option PlainDir → List ℕ → Type 0
IsDirectory stored dir = do
  globs ← AreLinesAt AreGlobs is_malformed_rule stored (path_of dir (codes "globs2"))
  magic ← IsMagicAt stored (path_of dir (codes "magic"))
  aliases ← AreLinesAt ArePairs is_malformed_pair stored (path_of dir (codes "aliases"))
  subclasses ← AreLinesAt ArePairs is_malformed_pair stored (path_of dir (codes "subclasses"))
  icons ← AreLinesAt AreIcons is_malformed_icon stored (path_of dir (codes "icons"))
  generic_icons ← AreLinesAt AreIcons is_malformed_icon stored (path_of dir (codes "generic-icons"))
  Gives (record {
    rules = globs.0;
    deleted_globs = globs.1;
    sections = magic.0;
    deleted_magic = magic.1;
    aliases = aliases;
    subclasses = subclasses;
    icons = icons;
    generic_icons = generic_icons;
  })

-- what directories give, one after another up to the first that stops
unfoldable pub AreDirectories : (List ℕ → Stored) → List (List ℕ) → Option (List PlainDir) → List ℕ → Type 0
AreDirectories stored [] = Gives []
AreDirectories stored (dir ∷ dirs) = do
  first ← IsDirectory stored dir
  others ← AreDirectories stored dirs
  Gives (first ∷ others)

-- what directories say, merged, the most preferred first, with the visible ones of its rules
unfoldable pub IsMerged : (List ℕ → Stored) → List (List ℕ) → Option PlainDatabase → List ℕ → Type 0
IsMerged stored dirs = do
  plain_dirs ← AreDirectories stored dirs
  Gives (visible_database (merged plain_dirs))

-- ---- directories without a text file

-- whether one of the list passes
abbrev pub OnePasses : {X : Type 0} → (X → Bool → Type 0) → List X → Bool → Type 0
OnePasses Passes [] one = one ≡ false
OnePasses Passes (x ∷ xs) one = (Passes x true × (one ≡ true)) ⊎ (Passes x false × OnePasses Passes xs one)

-- the names of the text files of a directory
abbrev pub text_names : List (List ℕ)
text_names =
    codes "globs2" ∷ codes "magic" ∷ codes "aliases" ∷ codes "subclasses" ∷ codes "icons" ∷ codes "generic-icons" ∷ []

-- whether one of the files of these names is in the directory, of whatever kind
abbrev pub HasFile : (List ℕ → Stored) → List (List ℕ) → List ℕ → Bool → Type 0
HasFile stored names dir = OnePasses (λ name. IsThere (stored (path_of dir name))) names

-- whether a text file is in one of the directories
abbrev pub HaveTextFile : (List ℕ → Stored) → List (List ℕ) → Bool → Type 0
HaveTextFile stored = OnePasses (HasFile stored text_names)

-- the first of the list that passes, if one does
abbrev pub FirstPasses : {X : Type 0} → (X → Bool → Type 0) → List X → Option X → Type 0
FirstPasses Passes [] first = first ≡ None
FirstPasses Passes (x ∷ xs) first = (Passes x true × (first ≡ Some x)) ⊎ (Passes x false × FirstPasses Passes xs first)

-- where the file `globs2` lies in a directory that is taken for the one before it
abbrev pub globs2_beside : List ℕ → List ℕ
globs2_beside dir = dir ++ codes "/globs2"

-- what is said more of directories of which one is the folder mime of a data directory
abbrev pub beside : Option (List ℕ) → List ℕ
beside None = []
beside (Some dir) = codes "; there is " ++ (dir ++ codes "/globs2: DIRS end before /mime")

-- why directories of which this is the first are wrong
abbrev pub why_missing : List ℕ → Option (List ℕ) → List ℕ
why_missing dir one_beside = codes "no text files, such as " ++ (dir ++ (codes "/mime/globs2" ++ beside one_beside))

-- the message on no directories
abbrev pub no_directories : List ℕ
no_directories = codes "mimelook: no data directories\n"

-- what is said of directories of which none has a text file: a message names the first file that was looked for, in this one, and
-- the first of them that is the folder mime of a data directory, if one is
abbrev pub IsMissingFrom : (List ℕ → Stored) → List ℕ → List (List ℕ) → Option (Unit {0}) → List ℕ → Type 0
IsMissingFrom stored first dirs found messages =
    (found ≡ Some tt) × ((one_beside : Option (List ℕ)) × FirstPasses (λ d. IsThere (stored (globs2_beside d))) dirs one_beside
    × (messages ≡ refusal (join_by (λ d. d) (codes ":") dirs) (why_missing first one_beside)))

-- the same where there may be none
abbrev pub IsMissing : (List ℕ → Stored) → List (List ℕ) → Option (Unit {0}) → List ℕ → Type 0
IsMissing stored [] found messages = (found ≡ Some tt) × (messages ≡ no_directories)
IsMissing stored (dir ∷ dirs) found messages = IsMissingFrom stored dir (dir ∷ dirs) found messages

-- what comes after that where a file is kept if it is there: it is there, which is said, and that stops; or it isn't
abbrev pub IsKeptWhere : Bool → List ℕ → Option (Unit {0}) → List ℕ → Type 0
IsKeptWhere true file found messages = (found ≡ None) × (messages ≡ not_replaced file)
IsKeptWhere false file found messages = Gives tt found messages

-- the same where one is kept, or none
abbrev pub IsKept : (List ℕ → Stored) → Option (List ℕ) → Option (Unit {0}) → List ℕ → Type 0
IsKept stored None found messages = Gives tt found messages
IsKept stored (Some file) found messages = (there : Bool) × IsThere (stored file) there × IsKeptWhere there file found messages

-- what is said of directories without a text file, and of the file that is kept
unfoldable pub IsMissingOver : (List ℕ → Stored) → Option (List ℕ) → List (List ℕ) → Option (Unit {0}) → List ℕ → Type 0
IsMissingOver stored kept dirs = do
  _ ← IsMissing stored dirs
  IsKept stored kept

-- what is said of directories before they are read: nothing where one has a text file
abbrev pub IsNoticedWhere : Bool → (List ℕ → Stored) → Option (List ℕ) → List (List ℕ) → Option (Unit {0}) → List ℕ → Type 0
IsNoticedWhere true stored kept dirs found messages = Gives tt found messages
IsNoticedWhere false stored kept dirs found messages = IsMissingOver stored kept dirs found messages

-- what is said of directories before they are read
abbrev pub IsNoticed : (List ℕ → Stored) → Option (List ℕ) → List (List ℕ) → Option (Unit {0}) → List ℕ → Type 0
IsNoticed stored kept dirs found messages =
    (one : Bool) × HaveTextFile stored dirs one × IsNoticedWhere one stored kept dirs found messages

-- the database of directories; where they have no text file, a file that is kept and is there stops
unfoldable pub IsDatabase : (List ℕ → Stored) → Option (List ℕ) → List (List ℕ) → Option PlainDatabase → List ℕ → Type 0
IsDatabase stored kept dirs = do
  _ ← IsNoticed stored kept dirs
  IsMerged stored dirs

-- the message where a variable of the environment is no text
abbrev pub not_text : List ℕ
not_text = codes "mimelook: XDG_DATA_HOME, HOME or XDG_DATA_DIRS is not text (UTF-8)\n"

-- the database of the user's directories, where the variables that name them are text
abbrev pub IsUserDatabase : (List ℕ → Stored) → Option (List ℕ) → Option PlainEnvironment → Option PlainDatabase → List ℕ → Type 0
IsUserDatabase stored kept None found messages = (found ≡ None) × (messages ≡ not_text)
IsUserDatabase stored kept (Some environment) found messages = IsDatabase stored kept (user_directories environment) found messages

-- the database of the directories that are named, or of the user's
abbrev pub IsDatabaseOf : (List ℕ → Stored) → Option (List ℕ) → Option PlainEnvironment → PlainDirectories
    → Option PlainDatabase → List ℕ → Type 0
IsDatabaseOf stored kept environment (named dirs) = IsDatabase stored kept dirs
IsDatabaseOf stored kept environment user = IsUserDatabase stored kept environment

-- ---- a command over a database

-- the run after loading, which had these messages; IsOver says what a run over files is by a database
abbrev pub IsAfterLoading : Option PlainDatabase → List ℕ → (PlainDatabase → List (List ℕ) → Run → Type 0) → List (List ℕ) → Run → Type 0
IsAfterLoading None messages IsOver files run = run ≡ stopped messages silent
IsAfterLoading (Some database) messages IsOver files run =
    (rest : Run) × IsOver database files rest × (run ≡ joined (said messages) rest)

-- the run of a command over the database of these directories
abbrev pub IsCommand : (List ℕ → Stored) → Option (List ℕ) → Option PlainEnvironment → PlainDirectories
    → (PlainDatabase → List (List ℕ) → Run → Type 0) → List (List ℕ) → Run → Type 0
IsCommand stored kept environment dirs IsOver files run =
    (database : Option PlainDatabase) × (messages : List ℕ) × IsDatabaseOf stored kept environment dirs database messages
    × IsAfterLoading database messages IsOver files run
