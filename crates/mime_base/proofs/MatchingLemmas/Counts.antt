-- How many tests matching makes, from what an attempt at a place of the name tells.
use Rattle.std.proofs.Common.{◌≡◌, ℕ, zero, suc, ◌+◌, Bool, true, false, cond, List, [], ◌∷◌, length, drop, refl, sym, ap, ◌∙◌, arith}
use Rattle.std.proofs.lemmas.Bool.{not-true, true≢false}
use Rattle.mime_base.specs.Matching.Attempt.{Goes, last_tests, tests_after}
use Rattle.mime_base.specs.Matching.Count.{has_star, is_refused, rule_tests, tests_at_end, tests_from, tests_of, tests_of_one}
use Rattle.mime_base.specs.Matching.Elements.{Element, any_bytes, one, OneByte, admits, elements}
use Rattle.mime_base.specs.Matching.Folding.{compared}
use Rattle.mime_base.specs.declared.matching.attempt.Halt.{Halt}
use Rattle.mime_base.specs.declared.matching.attempt.Halt.TheVariants.{BothEnd, PatternEnds, NameEnds, Star, Refused}
use Rattle.mime_base.proofs.MatchingLemmas.Attempts.{refused-within}

-- without elements nothing is tested
tests_of-nil : (name : List ℕ) → tests_of [] name ≡ 0
unfolding tests_of
tests_of-nil name = refl

-- an element that takes a byte is tested once, and then the others
tests_of-one : (w : OneByte) (es : List Element) (name : List ℕ) → tests_of (one w ∷ es) name ≡ tests_of_one w (tests_of es) name
unfolding tests_of
tests_of-one w es name = refl

-- the tests after a star, by whether another comes
pub tests_of-star : (es : List Element) (name : List ℕ) → tests_of (any_bytes ∷ es) name
    ≡ cond (has_star es) (tests_from (is_refused es) (tests_of es) name) (tests_at_end (length es) (tests_of es) name)
unfolding tests_of
tests_of-star es name = refl

-- the tests of a pattern are those of its elements
pub rule_tests-compared : (pattern : List ℕ) (cased : Bool) (name : List ℕ) →
    rule_tests pattern cased name ≡ tests_of (elements (compared cased pattern)) (compared cased name)
unfolding rule_tests
rule_tests-compared pattern cased name = refl

-- an attempt makes its own tests, and those of what stands after a star are left
pub goes-tests : (halt : Halt) (k : ℕ) (es : List Element) (name : List ℕ) (after : List Element) → Goes halt k es name after →
    tests_of es name ≡ k + last_tests halt + tests_after halt after (drop k name)
goes-tests BothEnd zero es name after goes = rw goes.0 (tests_of-nil name)
goes-tests PatternEnds zero es name after goes = rw goes.0 (tests_of-nil name)
goes-tests NameEnds zero [] name after goes = absurd (true≢false (sym goes.0))
goes-tests NameEnds zero (any_bytes ∷ es) name after goes = absurd (true≢false (sym goes.0))
goes-tests NameEnds zero (one w ∷ es) name after goes = rw goes.1 (tests_of-one w es [])
goes-tests Star zero es name after goes = rw goes (omega arith)
goes-tests Refused zero [] name after goes = absurd (true≢false (sym goes))
goes-tests Refused zero (any_bytes ∷ es) name after goes = absurd (true≢false (sym goes))
goes-tests Refused zero (one w ∷ es) [] after goes = absurd (true≢false (sym goes))
goes-tests Refused zero (one w ∷ es) (b ∷ name) after goes =
    tests_of-one w es (b ∷ name) ∙ ap (λ t. cond t (suc (tests_of es name)) 1) (not-true (admits w b) goes)
goes-tests halt (suc k) [] name after goes = absurd goes
goes-tests halt (suc k) (any_bytes ∷ es) name after goes = absurd goes
goes-tests halt (suc k) (one w ∷ es) [] after goes = absurd goes
goes-tests halt (suc k) (one w ∷ es) (b ∷ name) after goes =
    let rest = goes-tests halt k es name after goes.1 in
    tests_of-one w es (b ∷ name) ∙ ap (λ t. cond t (suc (tests_of es name)) 1) goes.0 ∙ omega arith

-- whether an element refused
refused-is : (k : ℕ) (es : List Element) (name : List ℕ) (after : List Element) → Goes Refused k es name after → is_refused es name ≡ true
refused-is zero [] name after goes = absurd (true≢false (sym goes))
refused-is zero (any_bytes ∷ es) name after goes = absurd (true≢false (sym goes))
refused-is zero (one w ∷ es) [] after goes = absurd (true≢false (sym goes))
refused-is zero (one w ∷ es) (b ∷ name) after goes = rw (not-true (admits w b) goes) refl
refused-is (suc k) [] name after goes = absurd goes
refused-is (suc k) (any_bytes ∷ es) name after goes = absurd goes
refused-is (suc k) (one w ∷ es) [] after goes = absurd goes
refused-is (suc k) (one w ∷ es) (b ∷ name) after goes = rw goes.0 (refused-is k es name after goes.1)

-- elements that halt for another reason were not refused at once
goes-unrefused : (halt : Halt) (k : ℕ) (es : List Element) (name : List ℕ) (after : List Element) → Goes halt k es name after →
    (halt ≡ Refused → ⊥) → is_refused es name ≡ false
goes-unrefused BothEnd zero es name after goes r = rw goes.0 refl
goes-unrefused PatternEnds zero es name after goes r = rw goes.0 refl
goes-unrefused NameEnds zero [] name after goes r = refl
goes-unrefused NameEnds zero (any_bytes ∷ es) name after goes r = refl
goes-unrefused NameEnds zero (one w ∷ es) name after goes r = rw goes.1 refl
goes-unrefused Star zero es name after goes r = rw goes refl
goes-unrefused Refused zero es name after goes r = absurd (r refl)
goes-unrefused halt (suc k) [] name after goes r = absurd goes
goes-unrefused halt (suc k) (any_bytes ∷ es) name after goes r = absurd goes
goes-unrefused halt (suc k) (one w ∷ es) [] after goes r = absurd goes
goes-unrefused halt (suc k) (one w ∷ es) (b ∷ name) after goes r = rw goes.0 (goes-unrefused halt k es name after goes.1 r)

-- with a star ahead a place that refuses costs its tests, and the next place is tried
pub tests-refused : (k : ℕ) (es : List Element) (name : List ℕ) (after : List Element) → has_star es ≡ true → Goes Refused k es name after →
    tests_of (any_bytes ∷ es) name ≡ k + 1 + tests_of (any_bytes ∷ es) (drop 1 name)
tests-refused k es [] after star goes = absurd (let h = refused-within k es [] after goes in omega arith)
tests-refused k es (b ∷ name) after star goes =
    let here = goes-tests Refused k es (b ∷ name) after goes in
    let next = tests_of-star es name
    ∙ ap (λ t. cond t (tests_from (is_refused es) (tests_of es) name) (tests_at_end (length es) (tests_of es) name)) star in
    tests_of-star es (b ∷ name)
    ∙ rw (star, refused-is k es (b ∷ name) after goes) (omega arith)

-- a place that does not is the last
pub tests-unrefused : (halt : Halt) (k : ℕ) (es : List Element) (name : List ℕ) (after : List Element) → has_star es ≡ true →
    Goes halt k es name after → (halt ≡ Refused → ⊥) →
    tests_of (any_bytes ∷ es) name ≡ k + last_tests halt + tests_after halt after (drop k name)
tests-unrefused halt k es name after star goes r =
    tests_of-star es name
    ∙ ap (λ t. cond t (tests_from (is_refused es) (tests_of es) name) (tests_at_end (length es) (tests_of es) name)) star
    ∙ here name (goes-unrefused halt k es name after goes r)
    ∙ goes-tests halt k es name after goes
  where
    here : (text : List ℕ) → is_refused es text ≡ false → tests_from (is_refused es) (tests_of es) text ≡ tests_of es text
    here [] free = refl
    here (b ∷ text) free = rw free refl
