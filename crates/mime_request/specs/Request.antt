-- What the words of a command line ask for.
use Rattle.std.specs.Prelude.{◌≡◌, ◌==◌, Bool, not, List, [], ◌∷◌, Option, Some, None, filter, codes}
use Rattle.std.specs.Prelude.{Result, Ok, Err, MatchResult, IsErrAnd, if◌then◌else◌}
use Rattle.std.specs.List.{slice_split}
use Rattle.std.specs.Str.{bytes_eq}
use Rattle.clap.specs.Walk.{Row, Text, all_of, first_of, is_empty, texts}
use Rattle.clap.specs.Simple.{subcommand_of, subcommand_rows_of}
use Rattle.clap.specs.declared.parser.matches.ArgMatches.{ArgMatches}
use Rattle.clap.specs.Faults.{fault_of}
use Rattle.clap.specs.Kinds.{HasKind, Kinds}
use Rattle.clap.specs.Values.{kind_of}
use Rattle.clap.specs.declared.error.Error.{Error}
use Rattle.clap.specs.declared.error.kind.ErrorKind.TheVariants as kind
use Rattle.mime_request.specs.CommandLine.{mimelook}
use Rattle.mime_request.specs.Flags.{agreed, given_options, is_given}
use Rattle.mime_request.specs.declared.request.Directories.{Directories}
use Rattle.mime_request.specs.declared.request.Directories.TheVariants as directories
use Rattle.mime_request.specs.declared.request.Options.{Options}
use Rattle.mime_request.specs.declared.request.Request.{Request}
use Rattle.mime_request.specs.declared.request.Request.TheVariants as request
use Rattle.mime_request.specs.declared.request.Source.{Source}
use Rattle.mime_request.specs.declared.request.Source.TheVariants as source
use Rattle.mime_request.specs.declared.request.Subjects.{Subjects}
use Rattle.mime_request.specs.declared.request.Subjects.TheVariants as subjects

-- data directories, most preferred first: these, or the user's
pub data PlainDirectories : Type 0 where
  named : List Text → PlainDirectories
  user : PlainDirectories

-- what is asked: the cache in this file, or the one that is made of these directories
pub data PlainSource : Type 0 where
  cache_of : Text → PlainSource
  made_of : PlainDirectories → PlainSource

-- what is looked up: these files, standard input under this name, or the files that this file lists
pub data PlainSubjects : Type 0 where
  of_files : List Text → PlainSubjects
  of_input : Text → PlainSubjects
  of_list : Text → PlainSubjects

-- what can be asked for
pub data PlainRequest : Type 0 where
  -- the cache of these directories, without twins if that is true, written to this file
  build : PlainDirectories → Bool → Text → PlainRequest
  -- from these directories, with these options, the types of this
  plain : PlainDirectories → Options → PlainSubjects → PlainRequest
  -- the glob rules of this cache
  list : PlainSource → PlainRequest
  -- whether this cache spells a database, and how much of it there is
  check : PlainSource → PlainRequest
  -- from this cache, with these options, why these files have their types
  explain : PlainSource → Options → List Text → PlainRequest
  -- by this cache, whether the first type is the second
  is_a : PlainSource → Text → Text → PlainRequest
  -- by this cache, the icons of the type
  icon : PlainSource → Text → PlainRequest
  -- from this cache, with these options, the types of this
  type_of : PlainSource → Options → PlainSubjects → PlainRequest

-- what words mean: they ask for something, or are answered by an error of one of these kinds, among
-- them help and the version
pub data Meaning : Type 0 where
  asks : PlainRequest → Meaning
  refused : Kinds → Meaning

-- the parts of a list with colons (58), but for the empty ones
abbrev pub parts : Text → List Text
parts dirs = filter (λ part. not (is_empty part)) (slice_split (λ b. b == 58) dirs)

-- the directories that DIRS names, or the user's where it is missing
abbrev pub directories_by : Option Text → PlainDirectories
directories_by None = user
directories_by (Some dirs) = named (parts dirs)

-- what is asked by CACHE and DIRS, where not both are given
abbrev pub source_by : Option Text → Option Text → Option PlainSource
source_by None dirs = Some (made_of (directories_by dirs))
source_by (Some cache) None = Some (cache_of cache)
source_by (Some cache) (Some dirs) = None

-- the directories and the source that clap found
abbrev pub directories_in : List Row → PlainDirectories
directories_in rows = directories_by (first_of (codes "dirs") rows)

-- the cache or the directories that the options name, unless they name both
abbrev pub source_in : List Row → Option PlainSource
source_in rows = source_by (first_of (codes "cache") rows) (first_of (codes "dirs") rows)

-- the options that clap found, if they can be given together
abbrev pub options_in : List Row → Option Options
options_in rows = agreed (given_options rows)

-- what NAME, LIST and FILEs name to be looked up; or the kinds of error where two are given, or none
abbrev pub subjects_by : Option Text → Option Text → Option (List Text) → Result PlainSubjects Kinds
subjects_by None None None = Err (kind.MissingRequiredArgument ∷ [])
subjects_by None None (Some files) = Ok (of_files files)
subjects_by (Some name) None None = Ok (of_input name)
subjects_by None (Some path) None = Ok (of_list path)
subjects_by (Some name) (Some path) files = Err (kind.ArgumentConflict ∷ [])
subjects_by (Some name) None (Some files) = Err (kind.ArgumentConflict ∷ [])
subjects_by None (Some path) (Some files) = Err (kind.ArgumentConflict ∷ [])

-- what clap found to be looked up
abbrev pub subjects_in : List Row → Result PlainSubjects Kinds
subjects_in rows = subjects_by (first_of (codes "stdin") rows) (first_of (codes "files0-from") rows) (all_of (codes "file") rows)

-- what is asked for by arguments that were right, or else the kinds of error
abbrev pub right : {A : Type 0} → Result A Kinds → (A → Meaning) → Meaning
right (Ok x) means = means x
right (Err kinds) means = refused kinds

-- the kinds of error by such arguments, none where they were right
abbrev pub wrong : {A : Type 0} → Result A Kinds → Kinds
wrong (Ok x) = []
wrong (Err kinds) = kinds

-- what is asked for by arguments that can't be given together; where they are, the words are refused
abbrev pub apart : {A : Type 0} → Option A → (A → Meaning) → Meaning
apart None means = refused (kind.ArgumentConflict ∷ [])
apart (Some x) means = means x

-- the kinds of error by such arguments, none where they aren't given together
abbrev pub conflicts : {A : Type 0} → Option A → Kinds
conflicts None = kind.ArgumentConflict ∷ []
conflicts (Some x) = []

-- what is asked for by an argument that must be given; without it the words are refused
abbrev pub given : {A : Type 0} → Option A → (A → Meaning) → Meaning
given None means = refused (kind.MissingRequiredArgument ∷ [])
given (Some x) means = means x

-- the kinds of error by such an argument, none where it is given
abbrev pub missing : {A : Type 0} → Option A → Kinds
missing None = kind.MissingRequiredArgument ∷ []
missing (Some x) = []

-- what `build` means by what clap found after it
abbrev pub build_meaning : List Row → Meaning
build_meaning rows = given (first_of (codes "output") rows) (λ file.
    asks (build (directories_in rows) (is_given (codes "drop-twins") rows) file))

-- what `plain` means by what clap found after it
abbrev pub plain_meaning : List Row → Meaning
plain_meaning rows = apart (options_in rows) (λ options. right (subjects_in rows) (λ subjects.
    asks (plain (directories_in rows) options subjects)))

-- what `list` means by what clap found after it
abbrev pub list_meaning : List Row → Meaning
list_meaning rows = apart (source_in rows) (λ source. asks (list source))

-- what `check` means by what clap found after it
abbrev pub check_meaning : List Row → Meaning
check_meaning rows = apart (source_in rows) (λ source. asks (check source))

-- what `explain` means by what clap found after it
abbrev pub explain_meaning : List Row → Meaning
explain_meaning rows = apart (source_in rows) (λ source. apart (options_in rows) (λ options.
    given (all_of (codes "file") rows) (λ files. asks (explain source options files))))

-- what `isa` means by what clap found after it
abbrev pub is_a_meaning : List Row → Meaning
is_a_meaning rows = apart (source_in rows) (λ source.
    given (first_of (codes "type") rows) (λ kind.
    given (first_of (codes "base") rows) (λ base. asks (is_a source kind base))))

-- what `icon` means by what clap found after it
abbrev pub icon_meaning : List Row → Meaning
icon_meaning rows = apart (source_in rows) (λ source.
    given (first_of (codes "type") rows) (λ kind. asks (icon source kind)))

-- what `type` means by what clap found after it
abbrev pub type_meaning : List Row → Meaning
type_meaning rows = apart (source_in rows) (λ source. apart (options_in rows) (λ options.
    right (subjects_in rows) (λ subjects. asks (type_of source options subjects))))

-- the commands: the name of each, and what it means
abbrev pub commands : List (Text × (List Row → Meaning))
commands = (codes "build", build_meaning) ∷ (codes "plain", plain_meaning)
    ∷ (codes "list", list_meaning) ∷ (codes "check", check_meaning) ∷ (codes "explain", explain_meaning)
    ∷ (codes "isa", is_a_meaning) ∷ (codes "icon", icon_meaning) ∷ (codes "type", type_meaning) ∷ []

-- what the command of this name means, if it is among these
abbrev pub meaning_among : List (Text × (List Row → Meaning)) → Text → List Row → Meaning
meaning_among [] name rows = refused (kind.InvalidSubcommand ∷ [])
meaning_among (c ∷ cs) name rows =
    if bytes_eq name c.0 then c.1 rows else meaning_among cs name rows

-- what the command that clap met means, if it met one
abbrev pub subcommand_meaning : Option (Text × List Row) → Meaning
subcommand_meaning None = refused (kind.MissingSubcommand ∷ [])
subcommand_meaning (Some p) = meaning_among commands p.0 p.1

-- the kinds of error come first; where there are none, the command decides
abbrev pub meaning_by : Kinds → Option (Text × List Row) → Meaning
meaning_by [] met = subcommand_meaning met
meaning_by (k ∷ ks) met = refused (k ∷ ks)

-- what the words mean; they are those after the program's name
unfoldable pub meaning_of : List Text → Meaning
meaning_of words = meaning_by (fault_of mimelook words) (subcommand_of mimelook words)

-- the matches are those of the words, and an error is one of the kinds that they have
abbrev pub Finds : List Text → Result ArgMatches Error → Type 0
Finds words r = MatchResult r (λ m. (fault_of mimelook words ≡ [])
    × (subcommand_rows_of m ≡ subcommand_of mimelook words)) (HasKind (fault_of mimelook words))

-- the plain value of directories
abbrev pub plain_directories : Directories → PlainDirectories
plain_directories (directories.Named dirs) = named (texts dirs.items)
plain_directories directories.User = user

-- the plain value of a source
abbrev pub plain_source : Source → PlainSource
plain_source (source.Cache path) = cache_of path.now
plain_source (source.Directories dirs) = made_of (plain_directories dirs)

-- the plain value of what is looked up
abbrev pub plain_subjects : Subjects → PlainSubjects
plain_subjects (subjects.Files files) = of_files (texts files.items)
plain_subjects (subjects.Input name) = of_input name.now
plain_subjects (subjects.List path) = of_list path.now

-- the plain value of a request
abbrev pub plain_request : Request → PlainRequest
plain_request (request.Build dirs drop_twins file) = build (plain_directories dirs) drop_twins file.now
plain_request (request.Plain dirs options of) = plain (plain_directories dirs) options (plain_subjects of)
plain_request (request.List from) = list (plain_source from)
plain_request (request.Check from) = check (plain_source from)
plain_request (request.Explain from options files) = explain (plain_source from) options (texts files.items)
plain_request (request.IsA from kind base) = is_a (plain_source from) kind.now base.now
plain_request (request.Icon from kind) = icon (plain_source from) kind.now
plain_request (request.Type from options of) = type_of (plain_source from) options (plain_subjects of)

-- the request is what the words mean, unless memory ran out
abbrev pub Means : Meaning → Result Request Error → Type 0
Means (asks a) r = MatchResult r (λ q. plain_request q ≡ a) (λ e. kind_of e ≡ kind.OutOfMemory)
Means (refused kinds) r = IsErrAnd r (HasKind kinds)
