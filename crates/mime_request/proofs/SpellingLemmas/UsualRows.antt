-- What `type` and `plain` hold at the end of their words.
use Rattle.std.proofs.Common.{◌≡◌, ◌∙◌, ◌||◌, false, List, [], ◌∷◌, ◌++◌, None, ap, codes, fold, map, refl, sym}
use Rattle.std.proofs.lemmas.List.Folds.{list_any-append}
use Rattle.std.specs.Option.{option_or}
use Rattle.std.specs.Str.{bytes_eq}
use Rattle.clap.specs.Simple.{filled}
use Rattle.clap.specs.Walk.{Row, Rule, Text, has_row, reading_by, with_default}
use Rattle.mime_request.specs.CommandLine.{files_rule, input_rule, list_rule}
use Rattle.mime_request.specs.Request.{PlainSubjects, of_files, of_input, of_list}
use Rattle.mime_request.specs.Spelling.{Flag, Named, by_cache, by_directories, by_nothing, flag_name, has}
use Rattle.mime_request.proofs.WalkLemmas.FlagWords.{source_rows}
use Rattle.mime_request.proofs.WalkLemmas.Flags.{IsNoFlag, flag_row, has_row-append, has_row-no_flag}
use Rattle.mime_request.proofs.WalkLemmas.Flags.{or_false, row_on, row_on-flags}
use Rattle.mime_request.proofs.WalkLemmas.Rows.{defaulted, finished-at, given_row, or_none, or_or, row_at, row_at-four}

-- the row of what is looked up
abbrev pub subject_row : PlainSubjects → Row
subject_row (of_files files) = given_row (codes "file") (reading_by (filled files_rule)) files
subject_row (of_input name) = given_row (codes "stdin") (reading_by (filled input_rule)) (name ∷ [])
subject_row (of_list list) = given_row (codes "files0-from") (reading_by (filled list_rule)) (list ∷ [])

-- the rows before it
abbrev pub rows_before : Named → List Flag → List Flag → List Row
rows_before by before after = (map flag_row before ++ source_rows by) ++ map flag_row after

-- all rows of a source, flags and what is looked up
abbrev pub rows_all : Named → List Flag → List Flag → PlainSubjects → List Row
rows_all by before after subjects = rows_before by before after ++ subject_row subjects ∷ []

-- no flag gives a row of another name
no_row : (name : Text) → IsNoFlag name → (flags : List Flag) → row_at name (map flag_row flags) ≡ None
no_row name other [] = refl
no_row name other (flag ∷ flags) = rw (other.flag_differs flag) (no_row name other flags)

-- nor does the source give one
pub no_source : (name : Text) → bytes_eq (codes "cache") name ≡ false → bytes_eq (codes "dirs") name ≡ false → (by : Named)
    → row_at name (source_rows by) ≡ None
no_source name c d (by_cache cache) = rw c refl
no_source name c d (by_directories dirs) = rw d refl
no_source name c d by_nothing = refl

-- what is neither a flag nor a source is not among the rows before what is looked up
pub no_row_before : (name : Text) → IsNoFlag name → bytes_eq (codes "cache") name ≡ false → bytes_eq (codes "dirs") name ≡ false
    → (by : Named) (before after : List Flag) → has_row name (rows_before by before after) ≡ false
no_row_before name other c d by before after =
    has_row-append name (map flag_row before ++ source_rows by) (map flag_row after)
    ∙ rw (
      has_row-append name (map flag_row before) (source_rows by),
      has_row-no_flag name other before,
      has_row-no_flag name other after,
    ) (of_source by)
  where
    of_source : (by : Named) → (has_row name (source_rows by) || false) ≡ false
    of_source (by_cache cache) = rw c refl
    of_source (by_directories dirs) = rw d refl
    of_source by_nothing = refl

-- the first row of a name among them: of flags, of the source, of flags, or of what is looked up
parts : (name : Text) (by : Named) (before after : List Flag) (subjects : PlainSubjects)
    → row_at name (rows_all by before after subjects)
    ≡ option_or (row_at name (map flag_row before)) (option_or (row_at name (source_rows by))
    (option_or (row_at name (map flag_row after)) (row_at name (subject_row subjects ∷ []))))
parts name by before after subjects =
    row_at-four name (map flag_row before) (source_rows by) (map flag_row after) (subject_row subjects ∷ [])

module _ (by : Named) (before after : List Flag) (subjects : PlainSubjects) (rules : List Rule) where
  -- the rows at the end
  abbrev pub rows_at_end : List Row
  rows_at_end = fold with_default (rows_all by before after subjects) rules

  -- a flag is on just where it is given
  pub flag_at_end : (name : Text) → row_at name (source_rows by) ≡ None → row_at name (subject_row subjects ∷ []) ≡ None
      → row_on (defaulted rules name) ≡ false → row_on (row_at name rows_at_end) ≡ has name (before ++ after)
  flag_at_end name no_source no_subject off =
      ap row_on (finished-at name rules (rows_all by before after subjects))
      ∙ (ap (λ x. row_on (option_or x (defaulted rules name))) (parts name by before after subjects)
      ∙ rw (
        no_source,
        no_subject,
        or_or (row_at name (map flag_row before)) (option_or (row_at name (map flag_row after)) None)
            (defaulted rules name),
        or_or (row_at name (map flag_row after)) None (defaulted rules name),
        row_on-flags name before (option_or (row_at name (map flag_row after)) (defaulted rules name)),
        row_on-flags name after (defaulted rules name),
        off,
        list_any-append (λ flag. bytes_eq (flag_name flag) name) before after,
        or_false (has name after),
      ) refl)

  -- what is no flag is the source's row, or that of what is looked up
  pub value_at_end : (name : Text) → IsNoFlag name → defaulted rules name ≡ None → row_at name rows_at_end
      ≡ option_or (row_at name (source_rows by)) (row_at name (subject_row subjects ∷ []))
  value_at_end name other none =
      finished-at name rules (rows_all by before after subjects)
      ∙ (ap (λ x. option_or x (defaulted rules name)) (parts name by before after subjects)
      ∙ rw (none, no_row name other before, no_row name other after) (sym (or_none _)))
