-- A word of `type` or `plain` after one whose argument is still pending.
use Rattle.std.proofs.Common.{◌≡◌, ◌++◌, Bool, true, false, not, List, [], ◌∷◌, Option, Some, None, codes, refl}
use Rattle.std.specs.Option.{option_map_or}
use Rattle.std.specs.Str.{bytes_eq}
use Rattle.clap.specs.Faults.{settle_fault}
use Rattle.clap.specs.Simple.{Shape, filled}
use Rattle.clap.specs.Walk.{Row, Text, has_row, idle, reading_by, settled_rows}
use Rattle.clap.proofs.OnLiterals.{clap_on_literals}
use Rattle.mime_request.specs.CommandLine.{cache_rule}
use Rattle.mime_request.specs.Spelling.{Flag, all_globs, brief, content_only, cost, escape, flag_name, flag_word, inode, magic_first}
use Rattle.mime_request.specs.Spelling.{name_only, null}
use Rattle.mime_request.specs.Spelling.{short_brief, short_null}
use Rattle.mime_request.proofs.WalkLemmas.FileWords.{in_files}
use Rattle.mime_request.proofs.WalkLemmas.Flags.{flag_row}
use Rattle.mime_request.proofs.WalkLemmas.PlainWords.{IsPlainWord}
use Rattle.mime_request.proofs.WalkLemmas.Rows.{given_row, set-new}
use Rattle.mime_request.proofs.CommandLemmas.Shapes.{TakesFiles, plain_shape, plain_takes, type_shape, type_takes}
use Rattle.mime_request.proofs.WalkLemmas.Walks.{Steps, before_value, between}

-- what is pending comes to these rows without a fault, and is no FILE
pub record Settles (s : Shape) (rows : List Row) (pending : Option (Text × List Text)) (settled : List Row) : Type 0 where
  pub no_fault : settle_fault s.rules false (record { rows = rows; pending = pending; skip = 0 }) ≡ []
  pub rows_are : settled_rows s.rules pending rows ≡ settled
  pub no_file : option_map_or (λ p. bytes_eq p.0 (codes "file")) pending false ≡ false

-- rows without a pending argument are settled
pub nothing_pending : (s : Shape) (rows : List Row) → Settles s rows None rows
nothing_pending s rows = record { no_fault = refl; rows_are = refl; no_file = refl }

-- whether the command takes the flag
abbrev pub takes : {s : Shape} → TakesFiles s → Flag → Bool
takes plain_takes flag = not (bytes_eq (flag_name flag) (codes "cost"))
takes type_takes flag = true

module _ (rows settled : List Row) (pending : Option (Text × List Text)) where
  -- a flag that is new
  type_flag : (flag : Flag) → Settles type_shape rows pending settled → has_row (flag_name flag) settled ≡ false
      → Steps type_shape [] (between rows pending idle) (flag_word flag) (between (settled ++ flag_row flag ∷ []) None idle)
  unfolding clap_on_literals
  type_flag name_only h new = record { no_fault = rw (h.no_fault, h.rows_are, new) refl; moves = rw (h.rows_are, set-new _ _ _ settled new) refl }
  type_flag content_only h new = record { no_fault = rw (h.no_fault, h.rows_are, new) refl; moves = rw (h.rows_are, set-new _ _ _ settled new) refl }
  type_flag magic_first h new = record { no_fault = rw (h.no_fault, h.rows_are, new) refl; moves = rw (h.rows_are, set-new _ _ _ settled new) refl }
  type_flag all_globs h new = record { no_fault = rw (h.no_fault, h.rows_are, new) refl; moves = rw (h.rows_are, set-new _ _ _ settled new) refl }
  type_flag inode h new = record { no_fault = rw (h.no_fault, h.rows_are, new) refl; moves = rw (h.rows_are, set-new _ _ _ settled new) refl }
  type_flag cost h new = record { no_fault = rw (h.no_fault, h.rows_are, new) refl; moves = rw (h.rows_are, set-new _ _ _ settled new) refl }
  type_flag null h new = record { no_fault = rw (h.no_fault, h.rows_are, new) refl; moves = rw (h.rows_are, set-new _ _ _ settled new) refl }
  type_flag short_null h new = record { no_fault = rw (h.no_fault, h.rows_are, new) refl; moves = rw (h.rows_are, set-new _ _ _ settled new) refl }
  type_flag brief h new = record { no_fault = rw (h.no_fault, h.rows_are, new) refl; moves = rw (h.rows_are, set-new _ _ _ settled new) refl }
  type_flag short_brief h new = record { no_fault = rw (h.no_fault, h.rows_are, new) refl; moves = rw (h.rows_are, set-new _ _ _ settled new) refl }
  type_flag escape h new = record { no_fault = rw (h.no_fault, h.rows_are, new) refl; moves = rw (h.rows_are, set-new _ _ _ settled new) refl }

  -- a flag that `plain` takes, once, is taken
  plain_flag : (flag : Flag) → not (bytes_eq (flag_name flag) (codes "cost")) ≡ true → Settles plain_shape rows pending settled
      → has_row (flag_name flag) settled ≡ false
      → Steps plain_shape [] (between rows pending idle) (flag_word flag) (between (settled ++ flag_row flag ∷ []) None idle)
  unfolding clap_on_literals
  plain_flag name_only t h new = record { no_fault = rw (h.no_fault, h.rows_are, new) refl; moves = rw (h.rows_are, set-new _ _ _ settled new) refl }
  plain_flag content_only t h new = record { no_fault = rw (h.no_fault, h.rows_are, new) refl; moves = rw (h.rows_are, set-new _ _ _ settled new) refl }
  plain_flag magic_first t h new = record { no_fault = rw (h.no_fault, h.rows_are, new) refl; moves = rw (h.rows_are, set-new _ _ _ settled new) refl }
  plain_flag all_globs t h new = record { no_fault = rw (h.no_fault, h.rows_are, new) refl; moves = rw (h.rows_are, set-new _ _ _ settled new) refl }
  plain_flag inode t h new = record { no_fault = rw (h.no_fault, h.rows_are, new) refl; moves = rw (h.rows_are, set-new _ _ _ settled new) refl }
  plain_flag cost t h new = absurd (cc)
  plain_flag null t h new = record { no_fault = rw (h.no_fault, h.rows_are, new) refl; moves = rw (h.rows_are, set-new _ _ _ settled new) refl }
  plain_flag short_null t h new = record { no_fault = rw (h.no_fault, h.rows_are, new) refl; moves = rw (h.rows_are, set-new _ _ _ settled new) refl }
  plain_flag brief t h new = record { no_fault = rw (h.no_fault, h.rows_are, new) refl; moves = rw (h.rows_are, set-new _ _ _ settled new) refl }
  plain_flag short_brief t h new = record { no_fault = rw (h.no_fault, h.rows_are, new) refl; moves = rw (h.rows_are, set-new _ _ _ settled new) refl }
  plain_flag escape t h new = record { no_fault = rw (h.no_fault, h.rows_are, new) refl; moves = rw (h.rows_are, set-new _ _ _ settled new) refl }

  -- `-c` waits for CACHE
  pub option_c : Settles type_shape rows pending settled
      → Steps type_shape [] (between rows pending idle) (codes "-c") (before_value (codes "cache") settled)
  unfolding clap_on_literals
  option_c h = record { no_fault = rw (h.no_fault) refl; moves = rw (h.rows_are) refl }

  -- `-d` waits for DIRS
  pub option_d : (s : Shape) → TakesFiles s → Settles s rows pending settled
      → Steps s [] (between rows pending idle) (codes "-d") (before_value (codes "dirs") settled)
  unfolding clap_on_literals
  option_d _ plain_takes h = record { no_fault = rw (h.no_fault) refl; moves = rw (h.rows_are) refl }
  option_d _ type_takes h = record { no_fault = rw (h.no_fault) refl; moves = rw (h.rows_are) refl }

  -- `--stdin` waits for NAME
  pub option_stdin : (s : Shape) → TakesFiles s → Settles s rows pending settled
      → Steps s [] (between rows pending idle) (codes "--stdin") (before_value (codes "stdin") settled)
  unfolding clap_on_literals
  option_stdin _ plain_takes h = record { no_fault = rw (h.no_fault) refl; moves = rw (h.rows_are) refl }
  option_stdin _ type_takes h = record { no_fault = rw (h.no_fault) refl; moves = rw (h.rows_are) refl }

  -- `--files0-from` waits for LIST
  pub option_list : (s : Shape) → TakesFiles s → Settles s rows pending settled
      → Steps s [] (between rows pending idle) (codes "--files0-from") (before_value (codes "files0-from") settled)
  unfolding clap_on_literals
  option_list _ plain_takes h = record { no_fault = rw (h.no_fault) refl; moves = rw (h.rows_are) refl }
  option_list _ type_takes h = record { no_fault = rw (h.no_fault) refl; moves = rw (h.rows_are) refl }

  -- the first FILE
  pub first_file : (s : Shape) → TakesFiles s → (file : Text) → Settles s rows pending settled → IsPlainWord file
      → Steps s [] (between rows pending idle) file (in_files settled (file ∷ []))
  unfolding clap_on_literals
  first_file _ plain_takes file h p = record {
    no_fault = rw (p.no_dashes, p.no_long, p.no_short, h.no_file) h.no_fault;
    moves = rw (p.no_dashes, p.no_long, p.no_short, h.no_file, h.rows_are) refl;
  }
  first_file _ type_takes file h p = record {
    no_fault = rw (p.no_dashes, p.no_long, p.no_short, h.no_file) h.no_fault;
    moves = rw (p.no_dashes, p.no_long, p.no_short, h.no_file, h.rows_are) refl;
  }

-- so is one that a command takes
pub flag_step : (s : Shape) (t : TakesFiles s) (flag : Flag) (rows settled : List Row) (pending : Option (Text × List Text))
    → takes t flag ≡ true → Settles s rows pending settled → has_row (flag_name flag) settled ≡ false
    → Steps s [] (between rows pending idle) (flag_word flag) (between (settled ++ flag_row flag ∷ []) None idle)
flag_step _ plain_takes flag rows settled pending t h new = plain_flag rows settled pending flag t h new
flag_step _ type_takes flag rows settled pending t h new = type_flag rows settled pending flag h new

-- CACHE settles to its row
pub cache_settles : (rows : List Row) (cache : Text) → has_row (codes "cache") rows ≡ false
    → Settles type_shape rows (Some (codes "cache", cache ∷ []))
    (rows ++ given_row (codes "cache") (reading_by (filled cache_rule)) (cache ∷ []) ∷ [])
cache_settles rows cache new = record { no_fault = rw new refl; rows_are = set-new _ _ _ rows new; no_file = refl }

-- DIRS settles to its row
pub dirs_settle : (s : Shape) → TakesFiles s → (rows : List Row) (dirs : Text) → has_row (codes "dirs") rows ≡ false
    → Settles s rows (Some (codes "dirs", dirs ∷ []))
    (rows ++ given_row (codes "dirs") (reading_by (filled cache_rule)) (dirs ∷ []) ∷ [])
dirs_settle _ plain_takes rows dirs new = record { no_fault = rw new refl; rows_are = set-new _ _ _ rows new; no_file = refl }
dirs_settle _ type_takes rows dirs new = record { no_fault = rw new refl; rows_are = set-new _ _ _ rows new; no_file = refl }
