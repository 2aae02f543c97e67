-- Sorted pairs as runs: parts one after another, each of the pairs of one first text.
use Rattle.std.specs.Prelude.{◌≡◌, ◌<◌, ℕ, false, List, [], ◌∷◌, ◌++◌, length, map, bytes_eq}
use Rattle.std.specs.Set.{is_member}
use Rattle.mime_base.specs.Format.Parents.{IsName}
use Rattle.mime_base.specs.Format.Records.{ListAt, Standing, TextAt}

-- a first text, and its pairs
abbrev pub PlainRun : Type 0
PlainRun = List ℕ × List (List ℕ × List ℕ)

-- the first text of a pair
abbrev pub first_text : List ℕ × List ℕ → List ℕ
first_text pair = pair.0

-- the second text of a pair
abbrev pub second_text : List ℕ × List ℕ → List ℕ
second_text pair = pair.1

-- all pairs have this first text
abbrev pub OfKind : List ℕ → List (List ℕ × List ℕ) → Type 0
OfKind kind [] = Unit {0}
OfKind kind (pair ∷ pairs) = (pair.0 ≡ kind) × OfKind kind pairs

-- the pairs are those of the runs one after another, and no first text has two runs
abbrev pub AreRuns : List PlainRun → List (List ℕ × List ℕ) → Type 0
AreRuns [] pairs = pairs ≡ []
AreRuns (run ∷ runs) pairs =
    (rest : List (List ℕ × List ℕ)) × (pairs ≡ run.1 ++ rest) × (0 < length run.1) × OfKind run.0 run.1
    × (is_member bytes_eq (map first_text rest) run.0 ≡ false) × AreRuns runs rest

-- two numbers: the offset of the first text, and that of the list of the second texts
abbrev pub IsRun : Standing → PlainRun → List ℕ → Type 0
IsRun S run numbers =
    (kind list : ℕ) × (numbers ≡ kind ∷ list ∷ []) × TextAt S kind run.0 × ListAt S 4 (IsName S) list (map second_text run.1)
