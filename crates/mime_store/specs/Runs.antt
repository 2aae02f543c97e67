-- The runs of the code, where one ends, and what they take.
use Rattle.std.specs.Prelude.{◌≡◌, ℕ, ◌+◌, false, List, [], ◌∷◌, map, sum_by, bytes_eq}
use Rattle.mime_base.specs.Format.Room.{text_room}
use Rattle.mime_base.specs.Format.Runs.{PlainRun}
use Rattle.mime_store.specs.Views.{pair_texts}
use Rattle.mime_store.specs.declared.run.Run.{Run}

-- the run of the code
abbrev pub plain_run : Run → PlainRun
plain_run run = (run.kind.now, map pair_texts run.pairs.now)

-- the first pair has another first text
abbrev pub EndsRun : List ℕ → List (List ℕ × List ℕ) → Type 0
EndsRun kind [] = Unit {0}
EndsRun kind (pair ∷ pairs) = bytes_eq pair.0 kind ≡ false

-- an offset and the second text of each pair
abbrev pub seconds_room : List (List ℕ × List ℕ) → ℕ
seconds_room pairs = sum_by (λ pair. 4 + text_room pair.1) pairs

-- what a run takes beside its entry: the first text, a count, and the second texts with their offsets
abbrev pub run_parts_room : PlainRun → ℕ
run_parts_room run = text_room run.0 + (4 + seconds_room run.1)

-- what all runs take, with their entries
abbrev pub runs_room : List PlainRun → ℕ
runs_room runs = sum_by (λ run. 8 + run_parts_room run) runs
