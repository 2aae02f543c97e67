-- What the rows of `type` and `plain` mean at the end of their words.
use Rattle.std.proofs.Common.{◌≡◌, ◌∙◌, Bool, true, false, List, [], ◌∷◌, ◌++◌, Ok, Option, Result, Some, None, ap, codes, refl}
use Rattle.std.specs.Option.{option_or}
use Rattle.std.specs.Str.{bytes_eq}
use Rattle.clap.specs.Kinds.{Kinds}
use Rattle.clap.specs.Walk.{Row, Rule, Text}
use Rattle.mime_request.specs.Flags.{agree, agreed, given_options, is_given}
use Rattle.mime_request.specs.Request.{PlainDirectories, PlainSource, PlainSubjects, apart, asks, directories_by, directories_in, of_files}
use Rattle.mime_request.specs.Request.{of_input, of_list, plain, plain_meaning, right, source_in, subjects_in, type_meaning, type_of}
use Rattle.mime_request.specs.Spelling.{Flag, Named, by_cache, by_directories, by_nothing, has, named_by, options_by, source_of}
use Rattle.mime_request.specs.declared.request.Options.{Options}
use Rattle.mime_request.proofs.WalkLemmas.Flags.{cache_is_no_flag, dirs_is_no_flag, file_is_no_flag, list_is_no_flag, row_on, stdin_is_no_flag}
use Rattle.mime_request.proofs.WalkLemmas.FlagWords.{source_rows}
use Rattle.mime_request.proofs.WalkLemmas.Rows.{defaulted, row_at}
use Rattle.mime_request.proofs.CommandLemmas.Shapes.{plain_shape, type_shape}
use Rattle.mime_request.proofs.SpellingLemmas.UsualRows.{flag_at_end, no_source, rows_at_end, subject_row, value_at_end}

-- options are alike where their fields are
alike : (n c m g i k z b e n' c' m' g' i' k' z' b' e' : Bool) → n ≡ n' → c ≡ c' → m ≡ m' → g ≡ g' → i ≡ i' → k ≡ k' → z ≡ z' → b ≡ b'
    → e ≡ e' → ◌≡◌ {A = Options} (record {
      name_only = n;
      content_only = c;
      magic_first = m;
      all_globs = g;
      inode = i;
      cost = k;
      output = record { null = z; brief = b; escape = e };
    }) (record {
      name_only = n';
      content_only = c';
      magic_first = m';
      all_globs = g';
      inode = i';
      cost = k';
      output = record { null = z'; brief = b'; escape = e' };
    })
alike n c m g i k z b e _ _ _ _ _ _ _ _ _ p q r s t u v w x = rw (p, q, r, s, t, u, v, w, x) refl

-- a row of another name is not that of what is looked up
no_subject : (name : Text) → bytes_eq (codes "file") name ≡ false → bytes_eq (codes "stdin") name ≡ false
    → bytes_eq (codes "files0-from") name ≡ false → (subjects : PlainSubjects) → row_at name (subject_row subjects ∷ []) ≡ None
no_subject name f i l (of_files files) = rw f refl
no_subject name f i l (of_input input) = rw i refl
no_subject name f i l (of_list list) = rw l refl

-- nor is it the source's
no_value : (name : Text) → bytes_eq (codes "cache") name ≡ false → bytes_eq (codes "dirs") name ≡ false → (by : Named) (row : Option Row)
    → option_or (row_at name (source_rows by)) row ≡ row
no_value name c d by row = rw (no_source name c d by) refl

-- what is found is what is looked up
found_subjects : (subjects : PlainSubjects) (rows : List Row) → row_at (codes "stdin") rows ≡ row_at (codes "stdin") (subject_row subjects ∷ [])
    → row_at (codes "files0-from") rows ≡ row_at (codes "files0-from") (subject_row subjects ∷ [])
    → row_at (codes "file") rows ≡ row_at (codes "file") (subject_row subjects ∷ []) → subjects_in rows ≡ Ok subjects
found_subjects (of_files files) rows i l f = rw (i, l, f) refl
found_subjects (of_input name) rows i l f = rw (i, l, f) refl
found_subjects (of_list list) rows i l f = rw (i, l, f) refl

module _ (by : Named) (before after : List Flag) (subjects : PlainSubjects) where
  module _ (rules : List Rule) where
    abbrev end : List Row
    end = rows_at_end by before after subjects rules

    -- the source at the end
    source_is : defaulted rules (codes "cache") ≡ None → defaulted rules (codes "dirs") ≡ None → source_in end ≡ Some (source_of by)
    source_is c d = by_parts by
        (value_at_end by before after subjects rules (codes "cache") cache_is_no_flag c
        ∙ ap (option_or (row_at (codes "cache") (source_rows by))) (no_subject (codes "cache") refl refl refl subjects))
        (value_at_end by before after subjects rules (codes "dirs") dirs_is_no_flag d
        ∙ ap (option_or (row_at (codes "dirs") (source_rows by))) (no_subject (codes "dirs") refl refl refl subjects))
      where
        by_parts : (by : Named) → row_at (codes "cache") end ≡ option_or (row_at (codes "cache") (source_rows by)) None
            → row_at (codes "dirs") end ≡ option_or (row_at (codes "dirs") (source_rows by)) None → source_in end ≡ Some (source_of by)
        by_parts (by_cache cache) c d = rw (c, d) refl
        by_parts (by_directories dirs) c d = rw (c, d) refl
        by_parts by_nothing c d = rw (c, d) refl

    -- so is what is looked up
    subjects_are : defaulted rules (codes "stdin") ≡ None → defaulted rules (codes "files0-from") ≡ None
        → defaulted rules (codes "file") ≡ None → subjects_in end ≡ Ok subjects
    subjects_are i l f = found_subjects subjects end
        (value_at_end by before after subjects rules (codes "stdin") stdin_is_no_flag i ∙ no_value (codes "stdin") refl refl by _)
        (value_at_end by before after subjects rules (codes "files0-from") list_is_no_flag l ∙ no_value (codes "files0-from") refl refl by _)
        (value_at_end by before after subjects rules (codes "file") file_is_no_flag f ∙ no_value (codes "file") refl refl by _)

    -- a flag at the end
    flag_is : (name : Text) → bytes_eq (codes "cache") name ≡ false → bytes_eq (codes "dirs") name ≡ false
        → bytes_eq (codes "file") name ≡ false → bytes_eq (codes "stdin") name ≡ false → bytes_eq (codes "files0-from") name ≡ false
        → row_on (defaulted rules name) ≡ false → is_given name end ≡ has name (before ++ after)
    flag_is name c d f i l off =
        flag_at_end by before after subjects rules name (no_source name c d by) (no_subject name f i l subjects) off

    -- and all of them
    flags_are : row_on (defaulted rules (codes "inode")) ≡ false → row_on (defaulted rules (codes "cost")) ≡ false
        → row_on (defaulted rules (codes "name-only")) ≡ false
        → row_on (defaulted rules (codes "content-only")) ≡ false → row_on (defaulted rules (codes "magic-first")) ≡ false
        → row_on (defaulted rules (codes "all-globs")) ≡ false
        → row_on (defaulted rules (codes "null")) ≡ false → row_on (defaulted rules (codes "brief")) ≡ false
        → row_on (defaulted rules (codes "escape")) ≡ false → given_options end ≡ options_by (before ++ after)
    flags_are i k n c m g z b e = alike _ _ _ _ _ _ _ _ _ _ _ _ _ _ _ _ _ _
        (flag_is (codes "name-only") refl refl refl refl refl n) (flag_is (codes "content-only") refl refl refl refl refl c)
        (flag_is (codes "magic-first") refl refl refl refl refl m) (flag_is (codes "all-globs") refl refl refl refl refl g)
        (flag_is (codes "inode") refl refl refl refl refl i) (flag_is (codes "cost") refl refl refl refl refl k)
        (flag_is (codes "null") refl refl refl refl refl z) (flag_is (codes "brief") refl refl refl refl refl b)
        (flag_is (codes "escape") refl refl refl refl refl e)

    -- what `type` asks for
    type_asks : (so : Option PlainSource) (o : Options) (about : Result PlainSubjects Kinds) (from : PlainSource) (options : Options)
        → so ≡ Some from → o ≡ options → agree options ≡ true → about ≡ Ok subjects
        → apart so (λ s. apart (agreed o) (λ q. right about (λ f. asks (type_of s q f)))) ≡ asks (type_of from options subjects)
    type_asks so o about from options a b c d = rw (a, b, c, d) refl

    -- what `plain` asks for
    plain_asks : (dirs : PlainDirectories) (o : Options) (about : Result PlainSubjects Kinds) (from : PlainDirectories) (options : Options)
        → dirs ≡ from → o ≡ options → agree options ≡ true → about ≡ Ok subjects
        → apart (agreed o) (λ q. right about (λ f. asks (plain dirs q f))) ≡ asks (plain from options subjects)
    plain_asks dirs o about from options a b c d = rw (a, b, c, d) refl

  -- what is held at the end of the words of `type` asks for this
  pub type_means : agree (options_by (before ++ after)) ≡ true
      → type_meaning (rows_at_end by before after subjects type_shape.rules)
      ≡ asks (type_of (source_of by) (options_by (before ++ after)) subjects)
  type_means together = type_asks type_shape.rules _ _ _ _ _ (source_is type_shape.rules refl refl)
      (flags_are type_shape.rules refl refl refl refl refl refl refl refl refl) together (subjects_are type_shape.rules refl refl refl)

-- the directories at the end
pub plain_means : (dirs : Option Text) (before after : List Flag) (subjects : PlainSubjects)
    → agree (options_by (before ++ after)) ≡ true
    → plain_meaning (rows_at_end (named_by dirs) before after subjects plain_shape.rules)
    ≡ asks (plain (directories_by dirs) (options_by (before ++ after)) subjects)
plain_means dirs before after subjects together =
    plain_asks (named_by dirs) before after subjects plain_shape.rules _ _ _ _ _
    (dirs_are dirs (value_at_end (named_by dirs) before after subjects plain_shape.rules (codes "dirs") dirs_is_no_flag refl
    ∙ ap (option_or (row_at (codes "dirs") (source_rows (named_by dirs)))) (no_subject (codes "dirs") refl refl refl subjects)))
    (flags_are (named_by dirs) before after subjects plain_shape.rules refl refl refl refl refl refl refl refl refl) together
    (subjects_are (named_by dirs) before after subjects plain_shape.rules refl refl refl)
  where
    dirs_are : (dirs : Option Text) → row_at (codes "dirs") (rows_at_end (named_by dirs) before after subjects plain_shape.rules)
        ≡ option_or (row_at (codes "dirs") (source_rows (named_by dirs))) None
        → directories_in (rows_at_end (named_by dirs) before after subjects plain_shape.rules) ≡ directories_by dirs
    dirs_are None is = rw is refl
    dirs_are (Some dirs) is = rw is refl
