-- How many tests matching makes, each of one element against a byte of the name or against its end. Between two `*`
-- the elements are tried at each place of the name up to the first where none refuses; after the last, at one place.
use Rattle.std.specs.Prelude.{ℕ, suc, ◌+◌, ◌-◌, Bool, true, false, nat_lt, if◌then◌else◌, List, [], ◌∷◌, length, drop}
use Rattle.mime_base.specs.Matching.Elements.{Element, any_bytes, one, OneByte, admits, elements}
use Rattle.mime_base.specs.Matching.Folding.{compared}

-- whether a `*` is among the elements
abbrev pub has_star : List Element → Bool
has_star [] = false
has_star (any_bytes ∷ _) = true
has_star (one _ ∷ rest) = has_star rest

-- whether an element before the next `*` does not admit its byte of the name
abbrev pub is_refused : List Element → List ℕ → Bool
is_refused [] name = false
is_refused (any_bytes ∷ _) name = false
is_refused (one element ∷ rest) [] = false
is_refused (one element ∷ rest) (b ∷ name) = if admits element b then is_refused rest name else true

-- one test of an element, and those that are made after it if it admits the byte
abbrev pub tests_of_one : OneByte → (List ℕ → ℕ) → List ℕ → ℕ
tests_of_one element tests [] = 1
tests_of_one element tests (b ∷ name) = if admits element b then suc (tests name) else 1

-- after a `*`, at each place of the name in turn, up to the first where none refuses
abbrev pub tests_from : (List ℕ → Bool) → (List ℕ → ℕ) → List ℕ → ℕ
tests_from refused tests [] = tests []
tests_from refused tests (b ∷ name) =
    if refused (b ∷ name) then tests (b ∷ name) + tests_from refused tests name else tests (b ∷ name)

-- after the last `*`, at the one place that leaves a byte for each element; one test where the name is shorter
abbrev pub tests_at_end : ℕ → (List ℕ → ℕ) → List ℕ → ℕ
tests_at_end size tests name = if nat_lt (length name) size then 1 else tests (drop (length name - size) name)

-- the tests of elements against a name
unfoldable pub tests_of : List Element → List ℕ → ℕ
tests_of [] name = 0
tests_of (any_bytes ∷ rest) name =
    if has_star rest then tests_from (is_refused rest) (tests_of rest) name else tests_at_end (length rest) (tests_of rest) name
tests_of (one element ∷ rest) name = tests_of_one element (tests_of rest) name

-- the tests of a pattern against a name, both as they are or both folded
unfoldable pub rule_tests : List ℕ → Bool → List ℕ → ℕ
rule_tests pattern cased name = tests_of (elements (compared cased pattern)) (compared cased name)
