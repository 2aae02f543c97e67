-- What the usual spellings of `type` and `plain` mean.
use Rattle.std.proofs.Common.{◌≡◌, ◌∙◌, true, false, List, [], ◌∷◌, ◌++◌, Option, Some, None, ap, codes, map, not, refl}
use Rattle.std.proofs.lemmas.List.Folds.{list_any-append}
use Rattle.std.specs.List.{list_all}
use Rattle.std.specs.Str.{bytes_eq}
use Rattle.clap.specs.Simple.{Shape}
use Rattle.clap.specs.Walk.{Row, Text, nothing_held, walk_from}
use Rattle.mime_request.specs.Request.{PlainSubjects, asks, directories_by, meaning_of, of_files, of_input, of_list, plain, subcommand_meaning, type_of}
use Rattle.mime_request.specs.Spelling.{AreUsual, Flag, Named, flag_name, flag_word, has, is_option, named_by, options_by, plain_words}
use Rattle.mime_request.specs.Spelling.{are_plain, source_of, source_word, source_words, subject_words, type_words}
use Rattle.mime_request.proofs.WalkLemmas.CommandWords.{meaning_of-met}
use Rattle.mime_request.proofs.WalkLemmas.FileWords.{over_files}
use Rattle.mime_request.proofs.WalkLemmas.FlagWords.{LeadsFrom, TakesSource, new_after, over_flags, over_source, plain_dirs, plain_user, type_source}
use Rattle.mime_request.proofs.WalkLemmas.Flags.{are_new, distinct_parts, none_of_none}
use Rattle.mime_request.proofs.WalkLemmas.PlainWords.{list_word, neither, none_of, plain_word}
use Rattle.mime_request.proofs.WalkLemmas.Rows.{neither_of}
use Rattle.mime_request.proofs.WalkLemmas.SettledWords.{first_file, nothing_pending, option_list, option_stdin, takes}
use Rattle.mime_request.proofs.CommandLemmas.Shapes.{TakesFiles, cache_met, plain_met, plain_shape, plain_takes, type_over, type_shape, type_takes}
use Rattle.mime_request.proofs.SpellingLemmas.UsualEnds.{ends_well, in_subjects, rows_end}
use Rattle.mime_request.proofs.SpellingLemmas.UsualMeanings.{plain_means, type_means}
use Rattle.mime_request.proofs.SpellingLemmas.UsualRows.{rows_before}
use Rattle.mime_request.proofs.WalkLemmas.Walks.{Leads, ends, goes}
use Rattle.mime_request.proofs.WalkLemmas.ValueWords.{value_taken}

-- `type` takes all flags
type_takes_all : (flags : List Flag) → list_all (takes type_takes) flags ≡ true
type_takes_all [] = refl
type_takes_all (flag ∷ flags) = type_takes_all flags

-- `plain` takes all but `--cost`
plain_takes_all : (flags : List Flag) → has (codes "cost") flags ≡ false → list_all (takes plain_takes) flags ≡ true
plain_takes_all [] h = refl
plain_takes_all (flag ∷ flags) h =
    let both = neither_of (bytes_eq (flag_name flag) (codes "cost")) (has (codes "cost") flags) h in
    rw (both.0) (plain_takes_all flags both.1)

-- over what is looked up
over_subjects : (s : Shape) (t : TakesFiles s) (settled : List Row) (subjects : PlainSubjects) → are_plain subjects ≡ true
    → LeadsFrom s t settled (subject_words subjects) (in_subjects settled subjects)
over_subjects s t settled (of_files []) h = let never : false ≡ true = h in absurd (cc)
over_subjects s t settled (of_files (file ∷ files)) h = λ rows pending settles.
    let both = neither (is_option file) (list_all (λ word. not (is_option word)) files) h in
    goes _ _ _ _ _ (first_file rows settled pending s t file settles (plain_word file both.0))
    (over_files s t settled (file ∷ []) files both.1)
over_subjects _ plain_takes settled (of_input name) h = λ rows pending settles.
    goes _ _ _ _ _ (option_stdin rows settled pending _ plain_takes settles)
    (goes _ _ _ _ _ (value_taken _ _ _ settled name refl refl (plain_word name (none_of (is_option name) h))) (ends _))
over_subjects _ type_takes settled (of_input name) h = λ rows pending settles.
    goes _ _ _ _ _ (option_stdin rows settled pending _ type_takes settles)
    (goes _ _ _ _ _ (value_taken _ _ _ settled name refl refl (plain_word name (none_of (is_option name) h))) (ends _))
over_subjects _ plain_takes settled (of_list list) h = λ rows pending settles.
    goes _ _ _ _ _ (option_list rows settled pending _ plain_takes settles)
    (goes _ _ _ _ _ (value_taken _ _ _ settled list refl refl (list_word list h)) (ends _))
over_subjects _ type_takes settled (of_list list) h = λ rows pending settles.
    goes _ _ _ _ _ (option_list rows settled pending _ type_takes settles)
    (goes _ _ _ _ _ (value_taken _ _ _ settled list refl refl (list_word list h)) (ends _))

-- over all the words after the command
usual_walk : (s : Shape) (t : TakesFiles s) (by : Named) → TakesSource s t by → (before after : List Flag) (subjects : PlainSubjects)
    → list_all (takes t) before ≡ true → list_all (takes t) after ≡ true → AreUsual (source_word by) (before ++ after) subjects
    → Leads s [] (walk_from nothing_held) (map flag_word before ++ (source_words by ++ (map flag_word after ++ subject_words subjects)))
    (in_subjects (rows_before by before after) subjects)
usual_walk s t by taken before after subjects first last usual =
    let parts = distinct_parts before after usual.distinct in
    over_flags s t before [] _ _ first (are_new before [] parts.0 (none_of_none before))
    (over_source s t by taken before _ _ usual.plain_source
    (over_flags s t after _ _ _ last (new_after by before after usual.distinct)
    (over_subjects s t (rows_before by before after) subjects usual.plain)))
    [] None (nothing_pending s [])

-- what `type [FLAG...] [-c CACHE | -d DIRS] [FLAG...] {FILE... | --files0-from LIST | --stdin NAME}` means
pub meaning_of-usual_type : (by : Named) (before after : List Flag) (subjects : PlainSubjects)
    → AreUsual (source_word by) (before ++ after) subjects
    → meaning_of (type_words by before after subjects) ≡ asks (type_of (source_of by) (options_by (before ++ after)) subjects)
meaning_of-usual_type by before after subjects usual =
    meaning_of-met (cache_met type_over) _ (in_subjects (rows_before by before after) subjects) _
    (usual_walk type_shape type_takes by (type_source by) before after subjects (type_takes_all before) (type_takes_all after) usual)
    (ends_well by before after subjects type_shape type_takes usual.plain usual.few)
    (ap (λ rows. subcommand_meaning (Some (codes "type", rows))) (rows_end by before after subjects type_shape type_takes usual.plain)
    ∙ type_means by before after subjects usual.together)

-- DIRS or none
source_of_plain : (dirs : Option Text) → TakesSource plain_shape plain_takes (named_by dirs)
source_of_plain None = plain_user
source_of_plain (Some dirs) = plain_dirs dirs

-- what `plain [FLAG...] [-d DIRS] [FLAG...] {FILE... | --files0-from LIST | --stdin NAME}` means
pub meaning_of-usual_plain : (dirs : Option Text) (before after : List Flag) (subjects : PlainSubjects)
    → AreUsual (source_word (named_by dirs)) (before ++ after) subjects → has (codes "cost") (before ++ after) ≡ false
    → meaning_of (plain_words dirs before after subjects) ≡ asks (plain (directories_by dirs) (options_by (before ++ after)) subjects)
meaning_of-usual_plain dirs before after subjects usual free =
    let costs = neither_of (has (codes "cost") before) (has (codes "cost") after)
    (rw (list_any-append (λ flag. bytes_eq (flag_name flag) (codes "cost")) before after) at free) in
    meaning_of-met plain_met _ (in_subjects (rows_before (named_by dirs) before after) subjects) _
    (usual_walk plain_shape plain_takes (named_by dirs) (source_of_plain dirs) before after subjects
    (plain_takes_all before costs.0) (plain_takes_all after costs.1) usual)
    (ends_well (named_by dirs) before after subjects plain_shape plain_takes usual.plain usual.few)
    (ap (λ rows. subcommand_meaning (Some (codes "plain", rows)))
    (rows_end (named_by dirs) before after subjects plain_shape plain_takes usual.plain)
    ∙ plain_means dirs before after subjects usual.together)
