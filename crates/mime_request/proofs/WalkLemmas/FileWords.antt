-- The walk of a command over its FILEs.
use Rattle.std.proofs.Common.{◌≡◌, ℕ, true, false, List, [], ◌∷◌, ◌++◌, ◌<◌, ◌^◌, not, Some, arith, refl, codes, length}
use Rattle.std.proofs.Common.{append_assoc, append-nil}
use Rattle.std.specs.List.{list_all}
use Rattle.std.proofs.lemmas.Bool.Decides.{nat_tests}
use Rattle.clap.specs.Lexer.{usize_max}
use Rattle.clap.specs.Walk.{Row, Text, Walk, positional}
use Rattle.clap.specs.Faults.{settle_fault}
use Rattle.clap.specs.Simple.{Shape}
use Rattle.clap.specs.Kinds.{range_kinds, values_kinds}
use Rattle.clap.specs.declared.builder.value_parser.ValueParser.TheVariants as vp
use Rattle.clap.proofs.OnLiterals.{clap_on_literals}
use Rattle.mime_request.specs.Spelling.{is_option}
use Rattle.mime_request.proofs.WalkLemmas.PlainWords.{IsPlainWord, neither, plain_word}
use Rattle.mime_request.proofs.CommandLemmas.Shapes.{TakesFiles, plain_takes, type_takes}
use Rattle.mime_request.proofs.WalkLemmas.Walks.{Steps, Leads, between, ends, goes, neither_fault}

-- after these files, where the options before them gave these rows
abbrev pub in_files : List Row → List Text → Walk
in_files rows files = between rows (Some (codes "file", files)) positional

-- one more FILE
next_file : (s : Shape) → TakesFiles s → (rows : List Row) (file : Text) (files : List Text) → IsPlainWord file
    → Steps s [] (in_files rows files) file (in_files rows (files ++ file ∷ []))
unfolding clap_on_literals
next_file _ plain_takes rows file files h = record {
  no_fault = rw (h.no_dashes, h.no_long, h.no_short) refl;
  moves = rw (h.no_dashes, h.no_long, h.no_short) refl;
}
next_file _ type_takes rows file files h = record {
  no_fault = rw (h.no_dashes, h.no_long, h.no_short) refl;
  moves = rw (h.no_dashes, h.no_long, h.no_short) refl;
}

-- over the FILEs after the first ones
pub over_files : (s : Shape) → TakesFiles s → (rows : List Row) (before files : List Text)
    → list_all (λ word. not (is_option word)) files ≡ true
    → Leads s [] (in_files rows before) files (in_files rows (before ++ files))
over_files s takes rows before [] h = rw (append-nil before) (ends (in_files rows before))
over_files s takes rows before (file ∷ files) h =
    let both = neither (is_option file) (list_all (λ word. not (is_option word)) files) h in
    let rest : Leads s [] (in_files rows (before ++ file ∷ [])) files (in_files rows (before ++ file ∷ files)) =
    rw (append_assoc before (file ∷ []) files) at (over_files s takes rows (before ++ file ∷ []) files both.1) in
    goes _ _ _ file files (next_file s takes rows file before (plain_word file both.0)) rest

-- any text is a value
pub values_fit : (files : List Text) → values_kinds false vp.String files ≡ []
values_fit [] = refl
values_fit (v ∷ vs) = values_fit vs

-- so is a count that is below 2^64
pub range_fits : (n : ℕ) → 0 < n → n < 2 ^ 64 → range_kinds 1 usize_max n ≡ []
range_fits n some few = grind (arith, nat_tests)

-- as many FILEs as memory can hold are taken
pub files_fit : (s : Shape) → TakesFiles s → (rows : List Row) (file : Text) (files : List Text) → length (file ∷ files) < 2 ^ 64
    → settle_fault s.rules false (in_files rows (file ∷ files)).held ≡ []
unfolding clap_on_literals
files_fit _ plain_takes rows file files few =
    neither_fault (range_kinds 1 usize_max (length (file ∷ files))) (values_kinds false vp.String (file ∷ files))
    (range_fits (length (file ∷ files)) (omega arith) few) (values_fit (file ∷ files))
files_fit _ type_takes rows file files few =
    neither_fault (range_kinds 1 usize_max (length (file ∷ files))) (values_kinds false vp.String (file ∷ files))
    (range_fits (length (file ∷ files)) (omega arith) few) (values_fit (file ∷ files))
