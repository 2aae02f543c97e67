-- What `build --drop-twins` means.
use Rattle.std.proofs.Common.{◌≡◌, false, true, List, [], None, Option, Some, refl, codes}
use Rattle.clap.specs.Walk.{Row, Text, Walk, finished, idle, nothing_held, walk_from}
use Rattle.clap.proofs.OnLiterals.{clap_on_literals}
use Rattle.mime_request.specs.CommandLine.{flag_rule}
use Rattle.mime_request.specs.Request.{asks, build, build_meaning, directories_by, meaning_of}
use Rattle.mime_request.specs.Spelling.{build_words_without_twins, is_option, named_by, source_word}
use Rattle.mime_request.proofs.CommandLemmas.Shapes.{build_met, build_shape}
use Rattle.mime_request.proofs.SpellingLemmas.BuildWords.{directories, directories_used, output}
use Rattle.mime_request.proofs.WalkLemmas.CommandWords.{meaning_of-met}
use Rattle.mime_request.proofs.WalkLemmas.PlainWords.{plain_word}
use Rattle.mime_request.proofs.WalkLemmas.Walks.{Steps, after_value, before_value, between, end_fault, ends, flag_used, goes}

-- the row of `--drop-twins`
abbrev twins_dropped : List Row
twins_dropped = flag_used true (flag_rule (codes "drop-twins")) []

-- at the start it is given
drop_twins : Steps build_shape [] (walk_from nothing_held) (codes "--drop-twins") (between twins_dropped None idle)
unfolding clap_on_literals
drop_twins = record { no_fault = refl; moves = refl }

-- after it `-o` waits for its value
option_o-dropped : Steps build_shape [] (between twins_dropped None idle) (codes "-o") (before_value (codes "output") twins_dropped)
unfolding clap_on_literals
option_o-dropped = record { no_fault = refl; moves = refl }

-- so does `-d`
option_d-dropped : Steps build_shape [] (between twins_dropped None idle) (codes "-d") (before_value (codes "dirs") twins_dropped)
unfolding clap_on_literals
option_d-dropped = record { no_fault = refl; moves = refl }

-- and `-o` after its value
option_o-dropped_after : (dirs : Text)
    → Steps build_shape [] (after_value (codes "dirs") twins_dropped dirs) (codes "-o")
    (before_value (codes "output") (directories_used dirs twins_dropped))
unfolding clap_on_literals
option_o-dropped_after dirs = record { no_fault = refl; moves = refl }

-- after the last word, without directories and with them
abbrev dropped_end : Option Text → Text → Walk
dropped_end None file = after_value (codes "output") twins_dropped file
dropped_end (Some dirs) file = after_value (codes "output") (directories_used dirs twins_dropped) file

-- nothing is missing there
dropped_fits : (dirs : Option Text) (file : Text) → end_fault build_shape false (dropped_end dirs file).held ≡ []
unfolding clap_on_literals
dropped_fits None file = refl
dropped_fits (Some dirs) file = refl

-- what is held there asks for a build without twins
dropped_means : (dirs : Option Text) (file : Text) → build_meaning (finished build_shape.rules (dropped_end dirs file).held)
    ≡ asks (build (directories_by dirs) true file)
unfolding clap_on_literals
dropped_means None file = refl
dropped_means (Some dirs) file = refl

-- the words of a build without twins ask for it
pub meaning_of-build_without_twins : (dirs : Option Text) (file : Text) → is_option (source_word (named_by dirs)) ≡ false
    → is_option file ≡ false → meaning_of (build_words_without_twins dirs file) ≡ asks (build (directories_by dirs) true file)
meaning_of-build_without_twins None file d f =
    meaning_of-met build_met _ (dropped_end None file) _
    (goes _ _ _ _ _ drop_twins (goes _ _ _ _ _ option_o-dropped
    (goes _ _ _ _ _ (output twins_dropped file (plain_word file f)) (ends (dropped_end None file)))))
    (dropped_fits None file) (dropped_means None file)
meaning_of-build_without_twins (Some dirs) file d f =
    meaning_of-met build_met _ (dropped_end (Some dirs) file) _
    (goes _ _ _ _ _ drop_twins (goes _ _ _ _ _ option_d-dropped
    (goes _ _ _ _ _ (directories twins_dropped dirs (plain_word dirs d)) (goes _ _ _ _ _ (option_o-dropped_after dirs)
    (goes _ _ _ _ _ (output (directories_used dirs twins_dropped) file (plain_word file f)) (ends (dropped_end (Some dirs) file)))))))
    (dropped_fits (Some dirs) file) (dropped_means (Some dirs) file)
