-- The usual spellings of a command line.
use Rattle.std.specs.Prelude.{◌≡◌, ◌<◌, ◌^◌, ◌==◌, ◌&&◌, ◌||◌, Bool, true, false, not, List, [], ◌∷◌, ◌++◌, Option, Some, None, codes, length}
use Rattle.std.specs.Prelude.{map}
use Rattle.std.specs.List.{list_all, list_any}
use Rattle.std.specs.Str.{bytes_eq}
use Rattle.clap.specs.Walk.{Text}
use Rattle.mime_request.specs.Flags.{agree}
use Rattle.mime_request.specs.Request.{PlainSource, PlainSubjects, cache_of, commands, made_of, named, of_files, of_input, of_list, parts, user}
use Rattle.mime_request.specs.declared.request.Options.{Options}

-- whether the word begins with a hyphen (45), as an option does
abbrev pub is_option : Text → Bool
is_option [] = false
is_option (x ∷ xs) = x == 45

-- whether the word is a hyphen alone, or no option
abbrev pub is_file_or_stream : Text → Bool
is_file_or_stream word = bytes_eq word (codes "-") || not (is_option word)

-- at least one FILE, and none is an option; or a NAME that is none; or a LIST that is none, or a hyphen alone
abbrev pub are_plain : PlainSubjects → Bool
are_plain (of_files []) = false
are_plain (of_files (file ∷ files)) = list_all (λ word. not (is_option word)) (file ∷ files)
are_plain (of_input name) = not (is_option name)
are_plain (of_list list) = is_file_or_stream list

-- `FILE...`, `--stdin NAME` or `--files0-from LIST`
abbrev pub subject_words : PlainSubjects → List Text
subject_words (of_files files) = files
subject_words (of_input name) = codes "--stdin" ∷ name ∷ []
subject_words (of_list list) = codes "--files0-from" ∷ list ∷ []

-- whether it is one path of DIRS: not empty, and with no colon (58)
abbrev pub is_path : Text → Bool
is_path [] = false
is_path (x ∷ xs) = list_all (λ b. not (b == 58)) (x ∷ xs)

-- how what is asked is named on the command line: by `-c CACHE`, by `-d DIRS`, or not at all
pub data Named : Type 0 where
  by_cache : Text → Named
  by_directories : Text → Named
  by_nothing : Named

-- the words that name it
abbrev pub source_words : Named → List Text
source_words (by_cache cache) = codes "-c" ∷ cache ∷ []
source_words (by_directories dirs) = codes "-d" ∷ dirs ∷ []
source_words by_nothing = []

-- the word by which it is named, an empty one where there is none
abbrev pub source_word : Named → Text
source_word (by_cache cache) = cache
source_word (by_directories dirs) = dirs
source_word by_nothing = []

-- what is asked
abbrev pub source_of : Named → PlainSource
source_of (by_cache cache) = cache_of cache
source_of (by_directories dirs) = made_of (named (parts dirs))
source_of by_nothing = made_of user

-- `build -o FILE`
abbrev pub build_words_of_user : Text → List Text
build_words_of_user file = codes "build" ∷ codes "-o" ∷ file ∷ []

-- `build -d DIRS -o FILE`
abbrev pub build_words : Text → Text → List Text
build_words dirs file = codes "build" ∷ codes "-d" ∷ dirs ∷ codes "-o" ∷ file ∷ []

-- `build -o FILE -d DIRS`
abbrev pub build_words_output_first : Text → Text → List Text
build_words_output_first dirs file =
    codes "build" ∷ codes "-o" ∷ file ∷ codes "-d" ∷ dirs ∷ []

-- `[-d DIRS]`
abbrev pub named_by : Option Text → Named
named_by None = by_nothing
named_by (Some dirs) = by_directories dirs

-- `build --drop-twins [-d DIRS] -o FILE`
abbrev pub build_words_without_twins : Option Text → Text → List Text
build_words_without_twins dirs file =
    codes "build" ∷ codes "--drop-twins" ∷ (source_words (named_by dirs) ++ codes "-o" ∷ file ∷ [])

-- a flag as it is written: by its name, or `-0` or `-b`
pub data Flag : Type 0 where
  name_only : Flag
  content_only : Flag
  magic_first : Flag
  all_globs : Flag
  inode : Flag
  cost : Flag
  null : Flag
  short_null : Flag
  brief : Flag
  short_brief : Flag
  escape : Flag

-- the name of the flag
abbrev pub flag_name : Flag → Text
flag_name name_only = codes "name-only"
flag_name content_only = codes "content-only"
flag_name magic_first = codes "magic-first"
flag_name all_globs = codes "all-globs"
flag_name inode = codes "inode"
flag_name cost = codes "cost"
flag_name null = codes "null"
flag_name short_null = codes "null"
flag_name brief = codes "brief"
flag_name short_brief = codes "brief"
flag_name escape = codes "escape"

-- the word by which it is given
abbrev pub flag_word : Flag → Text
flag_word short_null = codes "-0"
flag_word short_brief = codes "-b"
flag_word flag = codes "--" ++ flag_name flag

-- whether the flag of this name is among them
abbrev pub has : Text → List Flag → Bool
has name flags = list_any (λ flag. bytes_eq (flag_name flag) name) flags

-- the options that the flags turn on
abbrev pub options_by : List Flag → Options
options_by flags = record {
  name_only = has (codes "name-only") flags;
  content_only = has (codes "content-only") flags;
  magic_first = has (codes "magic-first") flags;
  all_globs = has (codes "all-globs") flags;
  inode = has (codes "inode") flags;
  cost = has (codes "cost") flags;
  output = record { null = has (codes "null") flags; brief = has (codes "brief") flags; escape = has (codes "escape") flags };
}

-- whether none is given twice
abbrev pub are_distinct : List Flag → Bool
are_distinct [] = true
are_distinct (flag ∷ flags) = not (list_any (λ other. bytes_eq (flag_name flag) (flag_name other)) flags) && are_distinct flags

-- `plain [FLAG...] [-d DIRS] [FLAG...] {FILE... | --files0-from LIST | --stdin NAME}`
abbrev pub plain_words : Option Text → List Flag → List Flag → PlainSubjects → List Text
plain_words dirs before after subjects =
    codes "plain" ∷ (map flag_word before ++ (source_words (named_by dirs) ++ (map flag_word after ++ subject_words subjects)))

-- `list [-c CACHE | -d DIRS]`
abbrev pub list_words : Named → List Text
list_words by = codes "list" ∷ source_words by

-- `check [-c CACHE | -d DIRS]`
abbrev pub check_words : Named → List Text
check_words by = codes "check" ∷ source_words by

-- `explain [-c CACHE | -d DIRS] FILE...`
abbrev pub explain_words : Named → List Text → List Text
explain_words by files = codes "explain" ∷ (source_words by ++ files)

-- no option is on
abbrev pub no_options : Options
no_options = options_by []

-- `isa [-c CACHE | -d DIRS] TYPE BASE`
abbrev pub is_a_words : Named → Text → Text → List Text
is_a_words by kind base = codes "isa" ∷ (source_words by ++ kind ∷ base ∷ [])

-- `icon [-c CACHE | -d DIRS] TYPE`
abbrev pub icon_words : Named → Text → List Text
icon_words by kind = codes "icon" ∷ (source_words by ++ kind ∷ [])

-- `type [FLAG...] [-c CACHE | -d DIRS] [FLAG...] {FILE... | --files0-from LIST | --stdin NAME}`
abbrev pub type_words : Named → List Flag → List Flag → PlainSubjects → List Text
type_words by before after subjects =
    codes "type" ∷ (map flag_word before ++ (source_words by ++ (map flag_word after ++ subject_words subjects)))

-- neither DIRS or CACHE nor a FILE, NAME or LIST could be taken for an option, no flag is given twice, and the flags can be given together
pub record AreUsual (source : Text) (flags : List Flag) (subjects : PlainSubjects) : Type 0 where
  pub plain_source : is_option source ≡ false
  pub plain : are_plain subjects ≡ true
  pub few : length (subject_words subjects) < 2 ^ 64
  pub distinct : are_distinct flags ≡ true
  pub together : agree (options_by flags) ≡ true

-- the flag, alone and after each command
abbrev pub at_both_levels : Text → List (List Text)
at_both_levels flag = (flag ∷ []) ∷ map (λ command. command.0 ∷ flag ∷ []) commands

-- the flags of help, `--help` and `-h`
abbrev pub help_words : List (List Text)
help_words = at_both_levels (codes "--help") ++ at_both_levels (codes "-h")

-- the flags of the version, `--version` and `-V`
abbrev pub version_words : List (List Text)
version_words = at_both_levels (codes "--version") ++ at_both_levels (codes "-V")

-- words that lack what their command needs
abbrev pub lacking_words : List (List Text)
lacking_words =
    (codes "build" ∷ codes "-d" ∷ [] ∷ [])
    ∷ (codes "plain" ∷ codes "--name-only" ∷ codes "-d" ∷ [] ∷ [])
    ∷ (codes "type" ∷ codes "--cost" ∷ codes "-c" ∷ [] ∷ [])
    ∷ (codes "isa" ∷ codes "-c" ∷ [] ∷ [] ∷ [])
    ∷ (codes "icon" ∷ codes "-c" ∷ [] ∷ [])
    ∷ (codes "explain" ∷ codes "-c" ∷ [] ∷ []) ∷ []

-- words of which two can't be given together
abbrev pub conflicting_words : List (List Text)
conflicting_words =
    (codes "list" ∷ codes "-c" ∷ [] ∷ codes "-d" ∷ [] ∷ [])
    ∷ (codes "list" ∷ codes "-c" ∷ [] ∷ codes "-c" ∷ [] ∷ [])
    ∷ (codes "plain" ∷ codes "-b" ∷ codes "--brief" ∷ codes "a" ∷ [])
    ∷ (codes "plain" ∷ codes "-0" ∷ codes "--escape" ∷ codes "a" ∷ [])
    ∷ (codes "type" ∷ codes "--cost" ∷ codes "-0" ∷ codes "a" ∷ [])
    ∷ (codes "type" ∷ codes "--cost" ∷ codes "-b" ∷ codes "a" ∷ [])
    ∷ (codes "type" ∷ codes "--content-only" ∷ codes "--name-only" ∷ codes "a" ∷ [])
    ∷ (codes "type" ∷ codes "--content-only" ∷ codes "--magic-first" ∷ codes "a" ∷ [])
    ∷ (codes "plain" ∷ codes "--magic-first" ∷ codes "--all-globs" ∷ codes "a" ∷ [])
    ∷ (codes "type" ∷ codes "--content-only" ∷ codes "--all-globs" ∷ codes "a" ∷ [])
    ∷ (codes "explain" ∷ codes "--magic-first" ∷ codes "--all-globs" ∷ codes "a" ∷ [])
    ∷ (codes "type" ∷ codes "--stdin" ∷ codes "a" ∷ codes "a" ∷ [])
    ∷ (codes "plain" ∷ codes "--stdin" ∷ [] ∷ codes "a" ∷ [])
    ∷ (codes "plain" ∷ codes "--stdin" ∷ [] ∷ codes "--stdin" ∷ [] ∷ [])
    ∷ (codes "type" ∷ codes "--files0-from" ∷ codes "-" ∷ codes "a" ∷ [])
    ∷ (codes "plain" ∷ codes "--files0-from" ∷ [] ∷ codes "--stdin" ∷ [] ∷ [])
    ∷ (codes "plain" ∷ codes "--files0-from" ∷ [] ∷ codes "--files0-from" ∷ [] ∷ []) ∷ []
