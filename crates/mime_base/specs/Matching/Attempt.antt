-- How the elements of a pattern go along a name from its front, one byte each, and what is left to decide then.
use Rattle.std.specs.Prelude.{◌≡◌, ℕ, zero, suc, ◌+◌, ◌-◌, ◌<◌, ◌≤◌, Bool, true, false, not, ◌&&◌, nat_lt, if◌then◌else◌, Option, Some, None, List}
use Rattle.std.specs.Prelude.{[], ◌∷◌, length, drop, min, IsTrue}
use Rattle.mime_base.specs.Matching.Elements.{Element, any_bytes, one, admits, elements, singles, is_special, HasNoEnd}
use Rattle.mime_base.specs.Matching.Count.{tests_of}
use Rattle.mime_base.specs.Matching.Matches.{matches}
use Rattle.mime_base.specs.Matching.Folding.{agrees, compared}
use Rattle.mime_base.specs.Meter.{raised}
use Rattle.mime_base.specs.declared.matching.attempt.Step.{Step}
use Rattle.mime_base.specs.declared.matching.attempt.Step.TheVariants.{Passes, Halts}
use Rattle.mime_base.specs.declared.matching.attempt.Halt.{Halt}
use Rattle.mime_base.specs.declared.matching.attempt.Reach.{Reach}
use Rattle.mime_base.specs.declared.matching.attempt.Halt.TheVariants.{BothEnd, PatternEnds, NameEnds, Star, Refused}

-- the first element is one that takes a byte
abbrev pub takes_a_byte : List Element → Bool
takes_a_byte [] = false
takes_a_byte (any_bytes ∷ _) = false
takes_a_byte (one _ ∷ _) = true

-- it does not admit the first byte
abbrev pub refuses : List Element → List ℕ → Bool
refuses (one element ∷ _) (b ∷ _) = not (admits element b)
refuses (one element ∷ _) [] = false
refuses (any_bytes ∷ _) name = false
refuses [] name = false

-- a pattern begins with a byte that stands for itself, and the name with one that is compared as another
abbrev pub begins_otherwise : Bool → List ℕ → List ℕ → Bool
begins_otherwise cased (first ∷ _) (byte ∷ _) = not (is_special first) && not (agrees cased (first, byte))
begins_otherwise cased (first ∷ _) [] = false
begins_otherwise cased [] name = false

-- it begins with a byte that stands for itself and is compared as the name's first, and goes on with one that is not
abbrev pub goes_on_otherwise : Bool → List ℕ → List ℕ → Bool
goes_on_otherwise cased (first ∷ after) (byte ∷ rest) =
    (not (is_special first) && agrees cased (first, byte)) && begins_otherwise cased after rest
goes_on_otherwise cased (first ∷ after) [] = false
goes_on_otherwise cased [] name = false

-- the byte that a pattern begins with, where it is below the letters and stands for itself
abbrev pub first_itself : List ℕ → Option ℕ
first_itself [] = None
first_itself (first ∷ _) = if nat_lt first 65 && not (is_special first) then Some first else None

-- why elements go no further; after a `*` stand the last
abbrev pub HaltsAt : Halt → List Element → List ℕ → List Element → Type 0
HaltsAt BothEnd elements name after = (elements ≡ []) × (name ≡ [])
HaltsAt PatternEnds elements name after = (elements ≡ []) × (0 < length name)
HaltsAt NameEnds elements name after = IsTrue (takes_a_byte elements) × (name ≡ [])
HaltsAt Star elements name after = elements ≡ any_bytes ∷ after
HaltsAt Refused elements name after = IsTrue (refuses elements name)

-- the first element takes the first byte, and these elements and bytes are left
abbrev pub TakesOne : List Element → List ℕ → List Element → List ℕ → Type 0
TakesOne (one element ∷ elements) (b ∷ name) left rest = IsTrue (admits element b) × (left ≡ elements) × (rest ≡ name)
TakesOne _ _ left rest = ⊥

-- what comes of the first element and the first byte of two texts
abbrev pub IsStep : Bool → List ℕ → List ℕ → Step → Type 0
IsStep cased pattern name (Passes left rest) =
    TakesOne (elements (compared cased pattern)) (compared cased name) (elements (compared cased left.now)) (compared cased rest.now)
IsStep cased pattern name (Halts halt after) =
    HaltsAt halt (elements (compared cased pattern)) (compared cased name) (elements (compared cased after.now))

-- how many tests are made where elements halt
abbrev pub last_tests : Halt → ℕ
last_tests BothEnd = 0
last_tests PatternEnds = 0
last_tests NameEnds = 1
last_tests Star = 0
last_tests Refused = 1

-- the step leaves less of both texts, and a pattern pays for a last test
abbrev pub IsShorter : List ℕ → List ℕ → Step → Type 0
IsShorter pattern name (Passes left rest) = (length left.now < length pattern) × (length rest.now + 1 ≡ length name)
IsShorter pattern name (Halts halt after) =
    (last_tests halt ≤ length pattern) × (halt ≡ Star → length after.now < length pattern)

-- none of the last that many bytes of what it leaves of the pattern is a `]`
abbrev pub LeavesNoEnd : ℕ → Step → Type 0
LeavesNoEnd endless (Passes left rest) = HasNoEnd endless left.now
LeavesNoEnd endless (Halts halt after) = HasNoEnd endless after.now

-- that many elements take a byte each, and then they halt
abbrev pub Goes : Halt → ℕ → List Element → List ℕ → List Element → Type 0
Goes halt zero elements name after = HaltsAt halt elements name after
Goes halt (suc k) (one element ∷ elements) (b ∷ name) after =
    IsTrue (admits element b) × Goes halt k elements name after
Goes halt (suc k) _ _ after = ⊥

-- What elements leave where they halt is a part of the pattern and of the name.
pub record LeavesPart (endless : ℕ) (pattern name : List ℕ) (reach : Reach) : Type 0 where
  -- They took no more bytes than the name has.
  pub passed : reach.passed ≤ length name
  -- At a `*` what stands after it is shorter than the pattern.
  pub shorter : reach.halt ≡ Star → length reach.after.now < length pattern
  -- None of its last `endless` bytes is a `]`.
  pub no_end : HasNoEnd endless reach.after.now

-- whether the name matches, where that is decided
abbrev pub answer : Halt → Option Bool
answer BothEnd = Some true
answer PatternEnds = Some false
answer NameEnds = Some false
answer Star = None
answer Refused = Some false

-- what is left to decide there: after a `*` whether these elements match an ending of what is left
abbrev pub decided : Halt → List Element → List ℕ → Bool
decided BothEnd after name = true
decided PatternEnds after name = false
decided NameEnds after name = false
decided Star after name = matches (any_bytes ∷ after) name
decided Refused after name = false

-- the tests that are made after that: at a `*` those of what stands after it
abbrev pub tests_after : Halt → List Element → List ℕ → ℕ
tests_after BothEnd after name = 0
tests_after PatternEnds after name = 0
tests_after NameEnds after name = 0
tests_after Star after name = tests_of (any_bytes ∷ after) name
tests_after Refused after name = 0

-- how many tests the elements take at least
abbrev pub owed : Halt → List Element → List Element → ℕ
owed BothEnd elements after = singles elements
owed PatternEnds elements after = min 1 (singles elements)
owed NameEnds elements after = min 1 (singles elements)
owed Star elements after = singles elements - singles after
owed Refused elements after = min 1 (singles elements)

-- After a `*` elements are tried at the places of a name until they halt, and what they leave decides the whole.
pub record SlidesTo (cased : Bool) (pattern name : List ℕ) (reach : Reach) : Type 0 where
  -- The whole matches where what is left does.
  pub decides : matches (any_bytes ∷ elements (compared cased pattern)) (compared cased name)
      ≡ decided reach.halt (elements (compared cased reach.after.now)) (compared cased (drop reach.passed name))
  -- Its tests are those that were made, and those of what is left.
  pub tests : raised 0 (tests_of (any_bytes ∷ elements (compared cased pattern)) (compared cased name))
      ≡ raised reach.tests (tests_after reach.halt (elements (compared cased reach.after.now)) (compared cased (drop reach.passed name)))
  -- The elements that are done with took theirs.
  pub least : owed reach.halt (elements (compared cased pattern)) (elements (compared cased reach.after.now)) ≤ reach.tests
