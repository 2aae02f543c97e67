-- The walk of `type` and `plain` over flags, a source, and flags again.
use Rattle.std.proofs.Common.{◌≡◌, ◌∙◌, true, false, List, [], ◌∷◌, ◌++◌, Option, None, append-nil, append_assoc, codes, map, refl, subst}
use Rattle.std.specs.List.{list_all, list_any}
use Rattle.clap.specs.Walk.{Row, Text, Walk, has_row, idle, reading_by}
use Rattle.clap.specs.Simple.{Shape, filled}
use Rattle.mime_request.specs.CommandLine.{cache_rule}
use Rattle.mime_request.specs.Spelling.{Flag, Named, are_distinct, by_cache, by_directories, by_nothing, flag_name, flag_word, has, is_option}
use Rattle.mime_request.specs.Spelling.{source_word, source_words}
use Rattle.mime_request.proofs.WalkLemmas.Flags.{AreNew, are_new, cache_is_no_flag, dirs_is_no_flag, distinct_parts, flag_row, has_row-append}
use Rattle.mime_request.proofs.WalkLemmas.Flags.{has_row-flags, has_row-no_flag, or_false}
use Rattle.mime_request.proofs.WalkLemmas.PlainWords.{both_of, plain_word}
use Rattle.mime_request.proofs.WalkLemmas.Rows.{given_row, neither_of}
use Rattle.mime_request.proofs.WalkLemmas.SettledWords.{Settles, cache_settles, dirs_settle, flag_step, nothing_pending, option_c, option_d, takes}
use Rattle.mime_request.proofs.CommandLemmas.Shapes.{TakesFiles, plain_shape, plain_takes, type_shape, type_takes}
use Rattle.mime_request.proofs.WalkLemmas.ValueWords.{value_taken}
use Rattle.mime_request.proofs.WalkLemmas.Walks.{Leads, between, goes}

-- the row of a source
abbrev pub source_rows : Named → List Row
source_rows (by_cache cache) = given_row (codes "cache") (reading_by (filled cache_rule)) (cache ∷ []) ∷ []
source_rows (by_directories dirs) = given_row (codes "dirs") (reading_by (filled cache_rule)) (dirs ∷ []) ∷ []
source_rows by_nothing = []

-- whether the command takes the source
pub data TakesSource : (s : Shape) → TakesFiles s → Named → Type 0 where
  type_source : (by : Named) → TakesSource type_shape type_takes by
  plain_dirs : (dirs : Text) → TakesSource plain_shape plain_takes (by_directories dirs)
  plain_user : TakesSource plain_shape plain_takes by_nothing

module _ (s : Shape) (t : TakesFiles s) where
  -- the words lead on from wherever the rows are these
  abbrev pub LeadsFrom : List Row → List Text → Walk → Type 0
  LeadsFrom settled words end = (rows : List Row) (pending : Option (Text × List Text)) → Settles s rows pending settled
      → Leads s [] (between rows pending idle) words end

  -- words are led over new flags that the command takes
  pub over_flags : (flags : List Flag) (settled : List Row) (words : List Text) (end : Walk) → list_all (takes t) flags ≡ true
      → AreNew flags settled → LeadsFrom (settled ++ map flag_row flags) words end → LeadsFrom settled (map flag_word flags ++ words) end
  over_flags [] settled words end taken new rest =
      subst (λ (rows : List Row). LeadsFrom rows words end) (append-nil settled) rest
  over_flags (flag ∷ flags) settled words end taken new rest = λ rows pending settles.
      let both = both_of (takes t flag) (list_all (takes t) flags) taken in
      let next = settled ++ flag_row flag ∷ [] in
      let later : LeadsFrom (next ++ map flag_row flags) words end =
      rw (append_assoc settled (flag_row flag ∷ []) (map flag_row flags)) rest in
      goes _ _ _ _ _ (flag_step s t flag rows settled pending both.0 settles new.0)
      (over_flags flags next words end both.1 new.1 later next None (nothing_pending s next))

-- and over a cache or directories after them
pub over_source : (s : Shape) (t : TakesFiles s) (by : Named) → TakesSource s t by → (flags : List Flag) (words : List Text) (end : Walk)
    → is_option (source_word by) ≡ false → LeadsFrom s t (map flag_row flags ++ source_rows by) words end
    → LeadsFrom s t (map flag_row flags) (source_words by ++ words) end
over_source _ _ _ (type_source (by_cache cache)) flags words end h rest = λ rows pending settles.
    let before = map flag_row flags in
    goes _ _ _ _ _ (option_c rows before pending settles)
    (goes _ _ _ _ _ (value_taken _ _ _ before cache refl refl (plain_word cache h))
    (rest _ _ (cache_settles before cache (has_row-no_flag _ cache_is_no_flag flags))))
over_source _ _ _ (type_source (by_directories dirs)) flags words end h rest = λ rows pending settles.
    let before = map flag_row flags in
    goes _ _ _ _ _ (option_d rows before pending _ type_takes settles)
    (goes _ _ _ _ _ (value_taken _ _ _ before dirs refl refl (plain_word dirs h))
    (rest _ _ (dirs_settle _ type_takes before dirs (has_row-no_flag _ dirs_is_no_flag flags))))
over_source _ _ _ (type_source by_nothing) flags words end h rest =
    subst (λ (rows : List Row). LeadsFrom _ type_takes rows words end) (append-nil (map flag_row flags)) rest
over_source _ _ _ (plain_dirs dirs) flags words end h rest = λ rows pending settles.
    let before = map flag_row flags in
    goes _ _ _ _ _ (option_d rows before pending _ plain_takes settles)
    (goes _ _ _ _ _ (value_taken _ _ _ before dirs refl refl (plain_word dirs h))
    (rest _ _ (dirs_settle _ plain_takes before dirs (has_row-no_flag _ dirs_is_no_flag flags))))
over_source _ _ _ plain_user flags words end h rest =
    subst (λ (rows : List Row). LeadsFrom _ plain_takes rows words end) (append-nil (map flag_row flags)) rest

-- a source is no flag
no_source_flag : (by : Named) (flag : Flag) → has_row (flag_name flag) (source_rows by) ≡ false
no_source_flag (by_cache cache) flag = rw (cache_is_no_flag.differs flag) refl
no_source_flag (by_directories dirs) flag = rw (dirs_is_no_flag.differs flag) refl
no_source_flag by_nothing flag = refl

-- the flags after the source are new
pub new_after : (by : Named) (before after : List Flag) → are_distinct (before ++ after) ≡ true
    → AreNew after (map flag_row before ++ source_rows by)
new_after by before after distinct =
    let parts = distinct_parts before after distinct in
    are_new after (map flag_row before ++ source_rows by) parts.1 (same_any after parts.2)
  where
    same : (flag : Flag) → has_row (flag_name flag) (map flag_row before ++ source_rows by) ≡ has (flag_name flag) before
    same flag = has_row-append (flag_name flag) (map flag_row before) (source_rows by)
        ∙ rw (no_source_flag by flag, has_row-flags (flag_name flag) before) (or_false (has (flag_name flag) before))

    same_any : (flags : List Flag) → list_any (λ flag. has (flag_name flag) before) flags ≡ false
        → list_any (λ flag. has_row (flag_name flag) (map flag_row before ++ source_rows by)) flags ≡ false
    same_any [] h = refl
    same_any (flag ∷ flags) h =
        let both = neither_of (has (flag_name flag) before) (list_any (λ other. has (flag_name other) before) flags) h in
        rw (same flag, both.0) (same_any flags both.1)
