-- What the usual spelling of `explain` means.
use Rattle.std.proofs.Common.{◌≡◌, ◌<◌, ◌^◌, true, false, not, List, [], ◌∷◌, ◌++◌, arith, refl, codes, length, append_assoc, append-nil}
use Rattle.std.specs.List.{list_all}
use Rattle.clap.specs.Lexer.{usize_max}
use Rattle.clap.specs.Walk.{Row, Text, finished, settled}
use Rattle.clap.specs.Faults.{check_fault, defaults_fault, settle_fault}
use Rattle.clap.specs.Kinds.{or_else, range_kinds, values_kinds}
use Rattle.clap.specs.declared.builder.value_parser.ValueParser.TheVariants as vp
use Rattle.clap.proofs.OnLiterals.{clap_on_literals}
use Rattle.mime_request.specs.Request.{asks, explain, explain_meaning, meaning_of, of_files}
use Rattle.mime_request.specs.Spelling.{Named, are_plain, by_cache, by_directories, by_nothing, explain_words, is_option, no_options}
use Rattle.mime_request.specs.Spelling.{source_of, source_word}
use Rattle.mime_request.proofs.CommandLemmas.Shapes.{cache_met, explain_over, explain_shape}
use Rattle.mime_request.proofs.WalkLemmas.CommandWords.{meaning_of-met}
use Rattle.mime_request.proofs.WalkLemmas.FileWords.{in_files, range_fits, values_fit}
use Rattle.mime_request.proofs.WalkLemmas.PlainWords.{IsPlainWord, neither, plain_word}
use Rattle.mime_request.proofs.WalkLemmas.SourceWords.{after_source, over_source, source_used}
use Rattle.mime_request.proofs.WalkLemmas.Walks.{Leads, Steps, end_fault, ends, goes, neither_fault}

-- the first FILE, after `-c CACHE`, `-d DIRS` or neither
first_file : (by : Named) (file : Text) → IsPlainWord file
    → Steps explain_shape [] (after_source by) file (in_files (source_used by) (file ∷ []))
unfolding clap_on_literals
first_file (by_cache cache) file h = record {
  no_fault = rw (h.no_dashes, h.no_long, h.no_short) refl;
  moves = rw (h.no_dashes, h.no_long, h.no_short) refl;
}
first_file (by_directories dirs) file h = record {
  no_fault = rw (h.no_dashes, h.no_long, h.no_short) refl;
  moves = rw (h.no_dashes, h.no_long, h.no_short) refl;
}
first_file by_nothing file h = record {
  no_fault = rw (h.no_dashes, h.no_long, h.no_short) refl;
  moves = rw (h.no_dashes, h.no_long, h.no_short) refl;
}

-- one more FILE
next_file : (rows : List Row) (file : Text) (files : List Text) → IsPlainWord file
    → Steps explain_shape [] (in_files rows files) file (in_files rows (files ++ file ∷ []))
unfolding clap_on_literals
next_file rows file files h = record {
  no_fault = rw (h.no_dashes, h.no_long, h.no_short) refl;
  moves = rw (h.no_dashes, h.no_long, h.no_short) refl;
}

-- over the FILEs after the first ones
over_files : (rows : List Row) (before files : List Text) → list_all (λ word. not (is_option word)) files ≡ true
    → Leads explain_shape [] (in_files rows before) files (in_files rows (before ++ files))
over_files rows before [] h = rw (append-nil before) (ends (in_files rows before))
over_files rows before (file ∷ files) h =
    let both = neither (is_option file) (list_all (λ word. not (is_option word)) files) h in
    let rest : Leads explain_shape [] (in_files rows (before ++ file ∷ [])) files (in_files rows (before ++ file ∷ files)) =
    rw (append_assoc before (file ∷ []) files) at (over_files rows (before ++ file ∷ []) files both.1) in
    goes _ _ _ file files (next_file rows file before (plain_word file both.0)) rest

-- as many FILEs as memory can hold are taken
files_fit : (rows : List Row) (file : Text) (files : List Text) → length (file ∷ files) < 2 ^ 64
    → settle_fault explain_shape.rules false (in_files rows (file ∷ files)).held ≡ []
unfolding clap_on_literals
files_fit rows file files few =
    neither_fault (range_kinds 1 usize_max (length (file ∷ files))) (values_kinds false vp.String (file ∷ files))
    (range_fits (length (file ∷ files)) (omega arith) few) (values_fit (file ∷ files))

-- nothing else is wrong at the end of the words of `explain`
ends_well : (by : Named) (file : Text) (files : List Text)
    → or_else (defaults_fault (settled explain_shape.rules (in_files (source_used by) (file ∷ files)).held).rows explain_shape.rules)
    (check_fault explain_shape (finished explain_shape.rules (in_files (source_used by) (file ∷ files)).held) false) ≡ []
unfolding clap_on_literals
ends_well (by_cache cache) file files = refl
ends_well (by_directories dirs) file files = refl
ends_well by_nothing file files = refl

-- what is held at the end of the words of `explain` asks why these FILEs have their types
explain_means : (by : Named) (file : Text) (files : List Text)
    → explain_meaning (finished explain_shape.rules (in_files (source_used by) (file ∷ files)).held)
    ≡ asks (explain (source_of by) no_options (file ∷ files))
unfolding clap_on_literals
explain_means (by_cache cache) file files = refl
explain_means (by_directories dirs) file files = refl
explain_means by_nothing file files = refl

-- what `explain [-c CACHE | -d DIRS] FILE...` means
pub meaning_of-usual_explain : (by : Named) (files : List Text) → is_option (source_word by) ≡ false
    → are_plain (of_files files) ≡ true → length files < 2 ^ 64
    → meaning_of (explain_words by files) ≡ asks (explain (source_of by) no_options files)
meaning_of-usual_explain by [] h plain few = let never : false ≡ true = plain in absurd (cc)
meaning_of-usual_explain by (file ∷ files) h plain few =
    let both = neither (is_option file) (list_all (λ word. not (is_option word)) files) plain in
    meaning_of-met (cache_met explain_over) _ (in_files (source_used by) (file ∷ files)) _
    (over_source explain_over by (file ∷ files) _ h (goes _ _ _ file files (first_file by file (plain_word file both.0))
    (over_files (source_used by) (file ∷ []) files both.1)))
    (neither_fault _ _ (files_fit (source_used by) file files few) (ends_well by file files)) (explain_means by file files)
