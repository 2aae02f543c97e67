-- That `type` and `plain` end well after what is looked up.
use Rattle.std.proofs.Common.{◌≡◌, ◌<◌, ◌^◌, ◌||◌, Bool, true, false, List, [], ◌∷◌, ◌++◌, Some, ap, codes, fold, if◌then◌else◌, length, refl}
use Rattle.std.specs.List.{list_all}
use Rattle.clap.specs.Faults.{check_fault, default_fault, defaults_fault, given_default_fault, settle_fault}
use Rattle.clap.specs.Kinds.{Kinds}
use Rattle.clap.specs.Simple.{Shape}
use Rattle.clap.specs.Walk.{Row, Rule, Text, Walk, finished, has_row, is_empty, more_values, settled, with_default}
use Rattle.clap.specs.declared.parser.matches.ValueSource.TheVariants.{CommandLine}
use Rattle.clap.proofs.OnLiterals.{clap_on_literals}
use Rattle.mime_request.specs.Request.{PlainSubjects, of_files, of_input, of_list}
use Rattle.mime_request.specs.Spelling.{Flag, Named, are_plain, subject_words}
use Rattle.mime_request.proofs.WalkLemmas.FileWords.{files_fit, in_files}
use Rattle.mime_request.proofs.WalkLemmas.Flags.{file_is_no_flag, list_is_no_flag, stdin_is_no_flag}
use Rattle.mime_request.proofs.WalkLemmas.PlainWords.{both_of}
use Rattle.mime_request.proofs.WalkLemmas.Rows.{at_row-new, set-new}
use Rattle.mime_request.proofs.WalkLemmas.SettledWords.{Settles}
use Rattle.mime_request.proofs.CommandLemmas.Shapes.{TakesFiles, plain_shape, plain_takes, type_shape, type_takes}
use Rattle.mime_request.proofs.SpellingLemmas.UsualRows.{no_row_before, rows_at_end, rows_before, subject_row}
use Rattle.mime_request.proofs.WalkLemmas.Walks.{after_value, end_fault, neither_fault}

-- whether there is no fault
abbrev is_none : Kinds → Bool
is_none [] = true
is_none (k ∷ ks) = false

-- whether the argument's default is no fault
abbrev fits : Rule → Bool
fits a = is_empty a.defaults || is_none (given_default_fault a a.defaults)

-- a default that fits is no fault
default_fits : (rows : List Row) (a : Rule) → fits a ≡ true → default_fault rows a ≡ []
default_fits rows a = go (has_row a.id rows) (is_empty a.defaults) (given_default_fault a a.defaults)
  where
    go : (there empty : Bool) (fault : Kinds) → (empty || is_none fault) ≡ true → (if there || empty then [] else fault) ≡ []
    go true empty fault h = refl
    go false true fault h = refl
    go false false [] h = refl
    go false false (k ∷ ks) h = absurd (cc)

-- so are all of them
defaults_fit : (rules : List Rule) (rows : List Row) → list_all fits rules ≡ true → defaults_fault rows rules ≡ []
unfolding defaults_fault
defaults_fit [] rows h = refl
defaults_fit (a ∷ rest) rows h =
    let both = both_of (fits a) (list_all fits rest) h in
    neither_fault _ _ (default_fits rows a both.0) (defaults_fit rest (with_default rows a) both.1)

-- all defaults of a command with FILEs fit
all_fit : (s : Shape) → TakesFiles s → list_all fits s.rules ≡ true
all_fit _ plain_takes = refl
all_fit _ type_takes = refl

-- nothing is missing at the end of its words
nothing_missing : (s : Shape) → TakesFiles s → (rows : List Row) → check_fault s rows false ≡ []
unfolding clap_on_literals
nothing_missing _ plain_takes rows = refl
nothing_missing _ type_takes rows = refl

-- after what is looked up, where the options before it gave these rows
abbrev pub in_subjects : List Row → PlainSubjects → Walk
in_subjects rows (of_files files) = in_files rows files
in_subjects rows (of_input name) = after_value (codes "stdin") rows name
in_subjects rows (of_list list) = after_value (codes "files0-from") rows list

-- NAME settles to its row
stdin_settles : (s : Shape) → TakesFiles s → (rows : List Row) (name : Text) → has_row (codes "stdin") rows ≡ false
    → Settles s rows (Some (codes "stdin", name ∷ [])) (rows ++ subject_row (of_input name) ∷ [])
stdin_settles _ plain_takes rows name new = record { no_fault = rw new refl; rows_are = set-new _ _ _ rows new; no_file = refl }
stdin_settles _ type_takes rows name new = record { no_fault = rw new refl; rows_are = set-new _ _ _ rows new; no_file = refl }

-- LIST settles to its row
list_settles : (s : Shape) → TakesFiles s → (rows : List Row) (list : Text) → has_row (codes "files0-from") rows ≡ false
    → Settles s rows (Some (codes "files0-from", list ∷ [])) (rows ++ subject_row (of_list list) ∷ [])
list_settles _ plain_takes rows list new = record { no_fault = rw new refl; rows_are = set-new _ _ _ rows new; no_file = refl }
list_settles _ type_takes rows list new = record { no_fault = rw new refl; rows_are = set-new _ _ _ rows new; no_file = refl }

-- the rows have none of what is looked up
pub record HasNoSubject (rows : List Row) : Type 0 where
  pub no_name : has_row (codes "stdin") rows ≡ false
  pub no_list : has_row (codes "files0-from") rows ≡ false
  pub no_file : has_row (codes "file") rows ≡ false

-- what is looked up settles without a fault
subjects_fit : (s : Shape) → TakesFiles s → (rows : List Row) (subjects : PlainSubjects) → HasNoSubject rows
    → are_plain subjects ≡ true → length (subject_words subjects) < 2 ^ 64
    → settle_fault s.rules false (in_subjects rows subjects).held ≡ []
subjects_fit s t rows (of_files []) new plain few = let never : false ≡ true = plain in absurd (cc)
subjects_fit s t rows (of_files (file ∷ files)) new plain few = files_fit s t rows file files few
subjects_fit s t rows (of_input name) new plain few = (stdin_settles s t rows name new.no_name).no_fault
subjects_fit s t rows (of_list list) new plain few = (list_settles s t rows list new.no_list).no_fault

-- and to its row
subjects_settle : (s : Shape) → TakesFiles s → (rows : List Row) (subjects : PlainSubjects) → HasNoSubject rows
    → are_plain subjects ≡ true
    → (settled s.rules (in_subjects rows subjects).held).rows ≡ rows ++ subject_row subjects ∷ []
subjects_settle s t rows (of_files []) new plain = let never : false ≡ true = plain in absurd (cc)
subjects_settle _ plain_takes rows (of_files (file ∷ files)) new plain =
    at_row-new (codes "file") (more_values CommandLine (file ∷ files)) (subject_row (of_files (file ∷ files)) ∷ []) rows new.no_file
subjects_settle _ type_takes rows (of_files (file ∷ files)) new plain =
    at_row-new (codes "file") (more_values CommandLine (file ∷ files)) (subject_row (of_files (file ∷ files)) ∷ []) rows new.no_file
subjects_settle s t rows (of_input name) new plain = (stdin_settles s t rows name new.no_name).rows_are
subjects_settle s t rows (of_list list) new plain = (list_settles s t rows list new.no_list).rows_are

module _ (by : Named) (before after : List Flag) (subjects : PlainSubjects) where
  -- the rows before what is looked up have none of it
  no_subject_before : HasNoSubject (rows_before by before after)
  no_subject_before = record {
    no_name = no_row_before (codes "stdin") stdin_is_no_flag refl refl by before after;
    no_list = no_row_before (codes "files0-from") list_is_no_flag refl refl by before after;
    no_file = no_row_before (codes "file") file_is_no_flag refl refl by before after;
  }

  -- what is looked up is the last row
  pub rows_end : (s : Shape) → TakesFiles s → are_plain subjects ≡ true
      → finished s.rules (in_subjects (rows_before by before after) subjects).held ≡ rows_at_end by before after subjects s.rules
  rows_end s t plain = ap (λ (rows : List Row). fold with_default rows s.rules)
      (subjects_settle s t (rows_before by before after) subjects no_subject_before plain)

  -- after what memory can hold nothing is wrong
  pub ends_well : (s : Shape) → TakesFiles s → are_plain subjects ≡ true → length (subject_words subjects) < 2 ^ 64
      → end_fault s false (in_subjects (rows_before by before after) subjects).held ≡ []
  ends_well _ plain_takes plain few =
      neither_fault _ _ (subjects_fit _ plain_takes (rows_before by before after) subjects no_subject_before plain few)
      (neither_fault _ _ (defaults_fit plain_shape.rules _ (all_fit _ plain_takes)) (nothing_missing _ plain_takes
      (finished plain_shape.rules (in_subjects (rows_before by before after) subjects).held)))
  ends_well _ type_takes plain few =
      neither_fault _ _ (subjects_fit _ type_takes (rows_before by before after) subjects no_subject_before plain few)
      (neither_fault _ _ (defaults_fit type_shape.rules _ (all_fit _ type_takes)) (nothing_missing _ type_takes
      (finished type_shape.rules (in_subjects (rows_before by before after) subjects).held)))
