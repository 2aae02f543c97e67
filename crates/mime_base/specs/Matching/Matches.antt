-- What it is for a name to match the elements of a pattern.
use Rattle.std.specs.Prelude.{◌≡◌, ℕ, Bool, true, false, ◌&&◌, ◌||◌, List, [], ◌∷◌, drop, length, min, ◌-◌, IsTrue}
use Rattle.mime_base.specs.Matching.Elements.{Element, any_bytes, one, OneByte, admits, elements, singles}
use Rattle.mime_base.specs.Matching.Folding.{compared}

-- by cases: `*` matches by some cut, any other element takes one byte that it admits
abbrev pub Matches : List Element → List ℕ → Type 0
Matches [] name = name ≡ []
Matches (any_bytes ∷ rest) name = (cut : ℕ) × Matches rest (drop cut name)
Matches (one element ∷ rest) [] = ⊥
Matches (one element ∷ rest) (b ∷ name) = IsTrue (admits element b) × Matches rest name

-- a name matches the elements of a rule's pattern, both as they are or both folded
abbrev pub RuleMatches : List ℕ → Bool → List ℕ → Type 0
RuleMatches pattern cased name = Matches (elements (compared cased pattern)) (compared cased name)

-- the same as a test, which computes
abbrev pub is_empty : List ℕ → Bool
is_empty [] = true
is_empty (_ ∷ _) = false

-- whether some ending of the name passes the test
abbrev pub some_ending : (List ℕ → Bool) → List ℕ → Bool
some_ending test [] = test []
some_ending test (b ∷ name) = test (b ∷ name) || some_ending test name

-- whether the element takes the first byte and the rest passes the test
abbrev pub takes_one : OneByte → (List ℕ → Bool) → List ℕ → Bool
takes_one element test [] = false
takes_one element test (b ∷ name) = admits element b && test name

-- `Matches` as a test, which computes
unfoldable pub matches : List Element → List ℕ → Bool
matches [] name = is_empty name
matches (any_bytes ∷ rest) name = some_ending (matches rest) name
matches (one element ∷ rest) name = takes_one element (matches rest) name

-- `RuleMatches` as a test, which computes
unfoldable pub rule_matches : List ℕ → Bool → List ℕ → Bool
rule_matches pattern cased name = matches (elements (compared cased pattern)) (compared cased name)

-- the name ends so
abbrev pub EndsSo : Bool → List ℕ → List ℕ → Type 0
EndsSo cased ending name = compared cased ending ≡ compared cased (drop (length name - length ending) name)

-- at least that many tests of elements: of each that takes a byte if the name matches, else one, if there is one
abbrev pub least_tests : Bool → List Element → ℕ
least_tests true elements = singles elements
least_tests false elements = min 1 (singles elements)
