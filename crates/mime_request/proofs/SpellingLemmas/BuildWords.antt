-- What the usual spellings of `build` mean.
use Rattle.std.proofs.Common.{◌≡◌, false, List, [], ◌∷◌, refl, codes}
use Rattle.clap.specs.Walk.{Row, Text, Walk, finished, nothing_held, used, walk_from}
use Rattle.clap.specs.Simple.{filled, with_index}
use Rattle.clap.proofs.OnLiterals.{clap_on_literals}
use Rattle.mime_request.specs.CommandLine.{directories_rule, output_rule}
use Rattle.mime_request.specs.Request.{asks, build, build_meaning, meaning_of, named, parts, user}
use Rattle.mime_request.specs.Spelling.{build_words, build_words_of_user, build_words_output_first, is_option}
use Rattle.mime_request.proofs.WalkLemmas.CommandWords.{meaning_of-met}
use Rattle.mime_request.proofs.WalkLemmas.PlainWords.{IsPlainWord, plain_word}
use Rattle.mime_request.proofs.CommandLemmas.Shapes.{build_met, build_shape}
use Rattle.mime_request.proofs.WalkLemmas.ValueWords.{value_taken}
use Rattle.mime_request.proofs.WalkLemmas.Walks.{Steps, Leads, after_value, before_value, end_fault, ends, goes}

-- rows after `-d` with directories
abbrev pub directories_used : Text → List Row → List Row
directories_used dirs = used (with_index 1 (filled directories_rule)) (dirs ∷ [])

-- rows after `-o` with a file
abbrev output_used : Text → List Row → List Row
output_used file = used (with_index 1 (filled output_rule)) (file ∷ [])

-- after `-d` a plain word is its value
pub directories : (rows : List Row) (dirs : Text) → IsPlainWord dirs
    → Steps build_shape [] (before_value (codes "dirs") rows) dirs (after_value (codes "dirs") rows dirs)
directories rows dirs h = value_taken build_shape _ _ rows dirs refl refl h

-- after `-o` a plain word is its value
pub output : (rows : List Row) (file : Text) → IsPlainWord file
    → Steps build_shape [] (before_value (codes "output") rows) file (after_value (codes "output") rows file)
output rows file h = value_taken build_shape _ _ rows file refl refl h

-- at the start `-d` waits for its value
option_d : Steps build_shape [] (walk_from nothing_held) (codes "-d") (before_value (codes "dirs") [])
unfolding clap_on_literals
option_d = record { no_fault = refl; moves = refl }

-- at the start `-o` waits for its value
option_o : Steps build_shape [] (walk_from nothing_held) (codes "-o") (before_value (codes "output") [])
unfolding clap_on_literals
option_o = record { no_fault = refl; moves = refl }

-- after the directories `-o` waits for its value
option_o-after : (dirs : Text)
    → Steps build_shape [] (after_value (codes "dirs") [] dirs) (codes "-o")
    (before_value (codes "output") (directories_used dirs []))
unfolding clap_on_literals
option_o-after dirs = record { no_fault = refl; moves = refl }

-- after the file `-d` waits for its value
option_d-after : (file : Text)
    → Steps build_shape [] (after_value (codes "output") [] file) (codes "-d") (before_value (codes "dirs") (output_used file []))
unfolding clap_on_literals
option_d-after file = record { no_fault = refl; moves = refl }

-- after the last word, in each order
abbrev output_last : Text → Text → Walk
output_last dirs file = after_value (codes "output") (directories_used dirs []) file

-- where the words end that have the file before the directories
abbrev output_first : Text → Text → Walk
output_first dirs file = after_value (codes "dirs") (output_used file []) dirs

-- directories and then a file lead to the end
output_last_walk : (dirs file : Text) → IsPlainWord dirs → IsPlainWord file
    → Leads build_shape [] (walk_from nothing_held) (codes "-d" ∷ dirs ∷ codes "-o" ∷ file ∷ []) (output_last dirs file)
output_last_walk dirs file d f =
    goes _ _ _ _ _ option_d (goes _ _ _ _ _ (directories [] dirs d) (goes _ _ _ _ _ (option_o-after dirs)
    (goes _ _ _ _ _ (output (directories_used dirs []) file f) (ends (output_last dirs file)))))

-- so do a file and then directories
output_first_walk : (dirs file : Text) → IsPlainWord dirs → IsPlainWord file
    → Leads build_shape [] (walk_from nothing_held) (codes "-o" ∷ file ∷ codes "-d" ∷ dirs ∷ []) (output_first dirs file)
output_first_walk dirs file d f =
    goes _ _ _ _ _ option_o (goes _ _ _ _ _ (output [] file f) (goes _ _ _ _ _ (option_d-after file)
    (goes _ _ _ _ _ (directories (output_used file []) dirs d) (ends (output_first dirs file)))))

-- nothing is missing at the end of directories and a file
output_last_fits : (dirs file : Text) → end_fault build_shape false (output_last dirs file).held ≡ []
unfolding clap_on_literals
output_last_fits dirs file = refl

-- nor at the end of a file and directories
output_first_fits : (dirs file : Text) → end_fault build_shape false (output_first dirs file).held ≡ []
unfolding clap_on_literals
output_first_fits dirs file = refl

-- what is held at the end of directories and a file asks for that build
output_last_means : (dirs file : Text) → build_meaning (finished build_shape.rules (output_last dirs file).held)
    ≡ asks (build (named (parts dirs)) false file)
unfolding clap_on_literals
output_last_means dirs file = refl

-- so does what is held at the end of a file and directories
output_first_means : (dirs file : Text)
    → build_meaning (finished build_shape.rules (output_first dirs file).held) ≡ asks (build (named (parts dirs)) false file)
unfolding clap_on_literals
output_first_means dirs file = refl

-- the usual words of `build` ask for it
pub meaning_of-usual_build : (dirs file : Text) → is_option dirs ≡ false → is_option file ≡ false
    → meaning_of (build_words dirs file) ≡ asks (build (named (parts dirs)) false file)
meaning_of-usual_build dirs file d f =
    meaning_of-met build_met _ (output_last dirs file) _ (output_last_walk dirs file (plain_word dirs d) (plain_word file f))
    (output_last_fits dirs file) (output_last_means dirs file)

-- so do those with the file first
pub meaning_of-output_first : (dirs file : Text) → is_option dirs ≡ false → is_option file ≡ false
    → meaning_of (build_words_output_first dirs file) ≡ asks (build (named (parts dirs)) false file)
meaning_of-output_first dirs file d f =
    meaning_of-met build_met _ (output_first dirs file) _ (output_first_walk dirs file (plain_word dirs d) (plain_word file f))
    (output_first_fits dirs file) (output_first_means dirs file)

-- without `-d DIRS`
abbrev output_alone : Text → Walk
output_alone = after_value (codes "output") []

-- nothing is missing at the end of a file alone
output_alone_fits : (file : Text) → end_fault build_shape false (output_alone file).held ≡ []
unfolding clap_on_literals
output_alone_fits file = refl

-- what is held at the end of a file alone asks for a build of the user's directories
output_alone_means : (file : Text) → build_meaning (finished build_shape.rules (output_alone file).held) ≡ asks (build user false file)
unfolding clap_on_literals
output_alone_means file = refl

-- a file alone asks for a build of the user's directories
pub meaning_of-build_of_user : (file : Text) → is_option file ≡ false → meaning_of (build_words_of_user file) ≡ asks (build user false file)
meaning_of-build_of_user file f =
    meaning_of-met build_met _ (output_alone file) _
    (goes _ _ _ _ _ option_o (goes _ _ _ _ _ (output [] file (plain_word file f)) (ends (output_alone file))))
    (output_alone_fits file) (output_alone_means file)
