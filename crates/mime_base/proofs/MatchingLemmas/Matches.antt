-- Matching as a test and as a relation, which are equal, and each one element on.
use Rattle.std.proofs.Common.{◌≡◌, ℕ, zero, suc, ◌-◌, ◌↔◌, Bool, true, false, List, [], ◌∷◌, length, drop, length-drop}
use Rattle.std.proofs.Common.{refl, sym, ap, ◌∙◌, arith, inl, inr, IsTrue}
use Rattle.std.proofs.lemmas.Bool.{or_cases, and_parts, and_from, or_left, or_right, true≢false, cases_lt}
use Rattle.std.proofs.lemmas.List.{drop_all}
use Rattle.mime_base.specs.Matching.Count.{has_star}
use Rattle.mime_base.specs.Matching.Elements.{Element, any_bytes, one, OneByte, elements}
use Rattle.mime_base.specs.Matching.Folding.{compared}
use Rattle.mime_base.specs.Matching.Matches.{Matches, RuleMatches, matches, rule_matches, some_ending, takes_one, is_empty}

-- no element matches no byte alone
pub matches-nil : (name : List ℕ) → matches [] name ≡ is_empty name
unfolding matches
matches-nil name = refl

-- a star matches where the rest matches some ending
pub matches-star : (rest : List Element) (name : List ℕ) → matches (any_bytes ∷ rest) name ≡ some_ending (matches rest) name
unfolding matches
matches-star rest name = refl

-- one element takes one byte
pub matches-one : (w : OneByte) (rest : List Element) (name : List ℕ) → matches (one w ∷ rest) name ≡ takes_one w (matches rest) name
unfolding matches
matches-one w rest name = refl

-- a pattern matches where its elements do
pub rule_matches-compared : (pattern : List ℕ) (cased : Bool) (name : List ℕ) →
    rule_matches pattern cased name ≡ matches (elements (compared cased pattern)) (compared cased name)
unfolding rule_matches
rule_matches-compared pattern cased name = refl

-- an ending that passes the test is some ending
some_ending-cut : (test : List ℕ → Bool) (cut : ℕ) (name : List ℕ) → test (drop cut name) ≡ true → some_ending test name ≡ true
some_ending-cut test zero [] h = h
some_ending-cut test (suc cut) [] h = h
some_ending-cut test zero (b ∷ name) h = or_left _ _ h
some_ending-cut test (suc cut) (b ∷ name) h = or_right _ _ (some_ending-cut test cut name h)

-- some ending that passes is an ending from some place on
cut_of : (test : List ℕ → Bool) (name : List ℕ) → some_ending test name ≡ true → (cut : ℕ) × (test (drop cut name) ≡ true)
cut_of test [] h = (0, h)
cut_of test (b ∷ name) h = elim (or_cases _ _ h) [
  | inl now ↦ (0, now)
  | inr later ↦ (let more = cut_of test name later in (suc more.0, more.1))
]

-- a star matches by some cut, and by each cut after which the rest matches

-- each cut after which the rest matches is a match of the star
pub star_from : (rest : List Element) (cut : ℕ) (name : List ℕ) → matches rest (drop cut name) ≡ true →
    matches (any_bytes ∷ rest) name ≡ true
star_from rest cut name h = matches-star rest name ∙ some_ending-cut (matches rest) cut name h

-- and each match has a cut
pub star_cut : (rest : List Element) (name : List ℕ) → matches (any_bytes ∷ rest) name ≡ true →
    (cut : ℕ) × (matches rest (drop cut name) ≡ true)
star_cut rest name h = cut_of (matches rest) name (sym (matches-star rest name) ∙ h)

-- the relation and the test

-- the test finds only matches
Matches-from : (es : List Element) (name : List ℕ) → matches es name ≡ true → Matches es name
Matches-from [] [] h = refl
Matches-from [] (b ∷ name) h = absurd (true≢false (sym h ∙ matches-nil (b ∷ name)))
Matches-from (any_bytes ∷ rest) name h = (let cut = star_cut rest name h in (cut.0, Matches-from rest (drop cut.0 name) cut.1))
Matches-from (one w ∷ rest) [] h = absurd (true≢false (sym h ∙ matches-one w rest []))
Matches-from (one w ∷ rest) (b ∷ name) h =
    (let both = and_parts _ _ (sym (matches-one w rest (b ∷ name)) ∙ h) in (both.0, Matches-from rest name both.1))

-- each match passes the test
matches-from : (es : List Element) (name : List ℕ) → Matches es name → matches es name ≡ true
matches-from [] name h = rw h (matches-nil [])
matches-from (any_bytes ∷ rest) name h = star_from rest h.0 name (matches-from rest (drop h.0 name) h.1)
matches-from (one w ∷ rest) [] h = absurd h
matches-from (one w ∷ rest) (b ∷ name) h = matches-one w rest (b ∷ name) ∙ and_from _ _ h.0 (matches-from rest name h.1)

-- an answer that is equal to the test decides the relation
pub rule_matches-decides : (pattern : List ℕ) (cased : Bool) (name : List ℕ) (answer : Bool) → answer ≡ rule_matches pattern cased name →
    IsTrue answer ↔ RuleMatches pattern cased name
rule_matches-decides pattern cased name answer e = (
  λ t. Matches-from _ _ (sym (rule_matches-compared pattern cased name) ∙ sym e ∙ t),
  λ m. e ∙ rule_matches-compared pattern cased name ∙ matches-from _ _ m,
)

-- elements match what is left after the first byte
pub one-next : (w : OneByte) (es : List Element) (b : ℕ) (name : List ℕ) → matches (one w ∷ es) (b ∷ name) ≡ true → matches es name ≡ true
one-next w es b name h = (and_parts _ _ (sym (matches-one w es (b ∷ name)) ∙ h)).1

-- what is left by a cut is left by its own length, too
pub drop-length : (cut : ℕ) (name : List ℕ) → drop (length name - length (drop cut name)) name ≡ drop cut name
drop-length cut name = elim (cases_lt cut (length name)) [
  | inl below ↦ (let same : length name - length (drop cut name) ≡ cut = omega (arith, length-drop cut name) in rw same refl)
  | inr past ↦ (let none : drop cut name ≡ [] = drop_all cut name past in
      drop_all (length name - length (drop cut name)) name (omega (arith, ap length none)) ∙ sym none)
]

-- elements without a star match only texts of a byte for each
pub matches-size : (es : List Element) (text : List ℕ) → has_star es ≡ false → matches es text ≡ true → length text ≡ length es
matches-size [] [] none m = refl
matches-size [] (b ∷ text) none m = absurd (true≢false (sym m ∙ matches-nil (b ∷ text)))
matches-size (any_bytes ∷ es) text none m = absurd (true≢false none)
matches-size (one w ∷ es) [] none m = absurd (true≢false (sym m ∙ matches-one w es []))
matches-size (one w ∷ es) (b ∷ text) none m = let h = matches-size es text none (one-next w es b text m) in omega arith
