-- What an attempt at a place of a name says of the name from that place on.
use Rattle.std.proofs.Common.{◌≡◌, ℕ, ◌+◌, ◌-◌, ◌<◌, Bool, true, false, Some, None, List, ◌∷◌, length, drop, refl}
use Rattle.std.proofs.Common.{ap, ◌∙◌, arith, length-drop}
use Rattle.std.proofs.lemmas.List.{drop-drop, drop-map, length-map}
use Rattle.mime_base.specs.Matching.Attempt.{Goes, answer, decided, last_tests, owed, tests_after}
use Rattle.mime_base.specs.Matching.Count.{has_star, tests_of}
use Rattle.mime_base.specs.Matching.Elements.{Element, any_bytes}
use Rattle.mime_base.specs.Matching.Folding.{compared, compared_byte}
use Rattle.mime_base.specs.Matching.Matches.{least_tests, matches}
use Rattle.mime_base.specs.declared.matching.attempt.Halt.{Halt}
use Rattle.mime_base.specs.declared.matching.attempt.Halt.TheVariants.{BothEnd, PatternEnds, NameEnds, Star, Refused}
use Rattle.mime_base.proofs.MatchingLemmas.Attempts.{goes-after_star, refused-after_star}
use Rattle.mime_base.proofs.MatchingLemmas.Counts.{tests-refused, tests-unrefused}

-- dropping from the compared name is comparing what is dropped to
drop-compared : (cased : Bool) (start k : ℕ) (name : List ℕ) →
    drop k (compared cased (drop start name)) ≡ compared cased (drop (start + k) name)
drop-compared cased start k name = drop-map (compared_byte cased) k (drop start name) ∙ ap (compared cased) (drop-drop k start name)

-- how much of the name is left
length-left : (cased : Bool) (start : ℕ) (name : List ℕ) → length (compared cased (drop start name)) ≡ length name - start
length-left cased start name = length-map (drop start name) (compared_byte cased) ∙ length-drop start name

module _ (cased : Bool) (es : List Element) (name : List ℕ) (start k : ℕ) (after : List Element) where
  -- an attempt that went to a star or an end decides the elements after a star
  pub decided-from : (halt : Halt) → Goes halt k es (compared cased (drop start name)) after →
      (halt ≡ PatternEnds → ⊥) → (halt ≡ Refused → ⊥) →
      matches (any_bytes ∷ es) (compared cased (drop start name)) ≡ decided halt after (compared cased (drop (start + k) name))
  decided-from halt goes p r = goes-after_star halt k es _ after goes p r ∙ ap (decided halt after) (drop-compared cased start k name)

  -- one that refused leaves them to the next place
  pub refused-from : Goes Refused k es (compared cased (drop start name)) after →
      (start + k < length name)
      × (matches (any_bytes ∷ es) (compared cased (drop start name)) ≡ matches (any_bytes ∷ es) (compared cased (drop (start + 1) name)))
  refused-from goes =
      let next = refused-after_star k es _ after goes in
      (omega (arith, next.0, length-left cased start name), next.1 ∙ ap (matches (any_bytes ∷ es)) (drop-compared cased start 1 name))

  -- the tests at a place that refuses, and at the first that does not
  pub tests-next : has_star es ≡ true → Goes Refused k es (compared cased (drop start name)) after →
      tests_of (any_bytes ∷ es) (compared cased (drop start name))
      ≡ k + 1 + tests_of (any_bytes ∷ es) (compared cased (drop (start + 1) name))
  tests-next star goes =
      tests-refused k es _ after star goes
      ∙ ap (λ text. k + 1 + tests_of (any_bytes ∷ es) text) (drop-compared cased start 1 name)

  -- the tests at the first place that does not refuse
  pub tests-from : has_star es ≡ true → (halt : Halt) → Goes halt k es (compared cased (drop start name)) after → (halt ≡ Refused → ⊥) →
      tests_of (any_bytes ∷ es) (compared cased (drop start name))
      ≡ k + last_tests halt + tests_after halt after (compared cased (drop (start + k) name))
  tests-from star halt goes r =
      tests-unrefused halt k es _ after star goes r
      ∙ ap (λ text. k + last_tests halt + tests_after halt after text) (drop-compared cased start k name)

-- what an answer says, and that only a star gives none

-- an answer is what was decided
pub decided-answer : (halt : Halt) (after : List Element) (name : List ℕ) (found : Bool) → Some found ≡ answer halt →
    decided halt after name ≡ found
decided-answer BothEnd after name found is = cc
decided-answer PatternEnds after name found is = cc
decided-answer NameEnds after name found is = cc
decided-answer Star after name found is = cc
decided-answer Refused after name found is = cc

-- and owes the tests of such an answer
pub owed-answer : (halt : Halt) (es after : List Element) (found : Bool) → Some found ≡ answer halt →
    owed halt es after ≡ least_tests found es
owed-answer BothEnd es after found is = let t : true ≡ found = cc in rw (← t) refl
owed-answer PatternEnds es after found is = let f : false ≡ found = cc in rw (← f) refl
owed-answer NameEnds es after found is = let f : false ≡ found = cc in rw (← f) refl
owed-answer Star es after found is = cc
owed-answer Refused es after found is = let f : false ≡ found = cc in rw (← f) refl

-- only a star leaves it open
pub star-unanswered : (halt : Halt) → None ≡ answer halt → halt ≡ Star
star-unanswered BothEnd is = cc
star-unanswered PatternEnds is = cc
star-unanswered NameEnds is = cc
star-unanswered Star is = refl
star-unanswered Refused is = cc

-- an attempt that is answered has no test left to make
pub answered-none : (halt : Halt) (after : List Element) (name : List ℕ) (found : Bool) → Some found ≡ answer halt →
    tests_after halt after name ≡ 0
answered-none BothEnd after name found is = refl
answered-none PatternEnds after name found is = refl
answered-none NameEnds after name found is = refl
answered-none Star after name found is = cc
answered-none Refused after name found is = refl
