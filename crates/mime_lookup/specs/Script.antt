-- What the steps of a script give, count and tell.
use Rattle.std.specs.Prelude.{ℕ, ◌+◌, Bool, true, false, if◌then◌else◌, List, [], ◌∷◌, ◌++◌, drop, take, Option, Some}
use Rattle.mime_lookup.specs.Content.{Health, Tally, sound, untold}
use Rattle.mime_lookup.specs.declared.script.Script.{Script}
use Rattle.mime_lookup.specs.declared.script.Step.{Step}
use Rattle.mime_lookup.specs.declared.script.Step.TheVariants.{Piece, Interruption, Fault}

-- the bytes of the pieces
abbrev pub bytes_in : List Step → List ℕ
bytes_in [] = []
bytes_in (Piece bytes ∷ steps) = bytes.now ++ bytes_in steps
bytes_in (Interruption ∷ steps) = bytes_in steps
bytes_in (Fault ∷ steps) = bytes_in steps

-- how many steps are faults
abbrev pub faults_in : List Step → ℕ
faults_in [] = 0
faults_in (Piece bytes ∷ steps) = faults_in steps
faults_in (Interruption ∷ steps) = faults_in steps
faults_in (Fault ∷ steps) = faults_in steps + 1

-- how many steps are interruptions
abbrev pub interruptions_in : List Step → ℕ
interruptions_in [] = 0
interruptions_in (Piece bytes ∷ steps) = interruptions_in steps
interruptions_in (Interruption ∷ steps) = interruptions_in steps + 1
interruptions_in (Fault ∷ steps) = interruptions_in steps

-- the tally of a reader that met these steps
abbrev pub tally_in : List Step → Tally
tally_in steps = record { failed = faults_in steps; interrupted = interruptions_in steps }

-- the bytes that a script is to give: the rest of the piece that was begun, and all pieces to come
abbrev pub bytes_left : Script → Option (List ℕ)
bytes_left script = Some (script.piece.now ++ bytes_in (drop script.met script.steps.now))

-- what a script counted: the faults and interruptions among the steps that were met
abbrev pub tally_of : Script → Option Tally
tally_of script = Some (tally_in (take script.met script.steps.now))

-- whether all steps are pieces
abbrev pub are_pieces : List Step → Bool
are_pieces [] = true
are_pieces (Piece bytes ∷ steps) = are_pieces steps
are_pieces (Interruption ∷ steps) = false
are_pieces (Fault ∷ steps) = false

-- the health of a reader that is to meet these steps
abbrev pub health_of : List Step → Health
health_of steps = if are_pieces steps then sound else untold

-- the health of a script: by the steps to come
abbrev pub health_left : Script → Health
health_left script = health_of (drop script.met script.steps.now)
