-- A text that stands for itself: its elements are its bytes, and they go along a name of its length as far as both
-- are compared as equal.
use Rattle.std.proofs.Common.{◌≡◌, ℕ, zero, suc, ◌+◌, ◌<◌, ◌==◌, nat_eq, Bool, true, false, cond, not, ◌||◌, List, [], ◌∷◌}
use Rattle.std.proofs.Common.{length, refl, sym, ap, ◌∙◌, arith}
use Rattle.std.proofs.lemmas.Bool.{and_parts, not-true, or_parts}
use Rattle.std.proofs.lemmas.List.{length-map}
use Rattle.std.specs.List.{common_prefix_len}
use Rattle.mime_base.specs.Matching.Attempt.{Goes, refuses}
use Rattle.mime_base.specs.Matching.Count.{has_star, rule_tests, tests_of}
use Rattle.mime_base.specs.Matching.Elements.{Element, any_bytes, one, this_byte, elements, is_literal_text, is_special}
use Rattle.mime_base.specs.Matching.Folding.{agrees, compared, compared_byte}
use Rattle.mime_base.specs.declared.matching.attempt.Halt.TheVariants.{BothEnd, Refused}
use Rattle.mime_base.specs.Matching.Matches.{least_tests, matches, rule_matches}
use Rattle.mime_base.proofs.MatchingLemmas.Attempts.{goes-decided}
use Rattle.mime_base.proofs.MatchingLemmas.Counts.{goes-tests, rule_tests-compared}
use Rattle.mime_base.proofs.MatchingLemmas.Matches.{rule_matches-compared}
use Rattle.mime_base.proofs.MatchingLemmas.Places.{elements-cons, elements-nil, elements-star}
use Rattle.mime_base.proofs.MatchingLemmas.Sets.{is_literal_text-compared, is_special-compared}

-- a byte that stands for itself is the element of that byte
pub elements-itself : (b : ℕ) (rest : List ℕ) → is_special b ≡ false → elements (b ∷ rest) ≡ one (this_byte b) ∷ elements rest
elements-itself b rest h =
    let escape = or_parts (b == 42 || b == 63 || b == 91) (b == 92) h in
    let set = or_parts (b == 42 || b == 63) (b == 91) escape.0 in
    let both = or_parts (b == 42) (b == 63) set.0 in
    elements-cons b rest ∙ rw (both.0, both.1, set.1, escape.1) refl

-- no star, and an element a byte
literal-size : (xs : List ℕ) → is_literal_text xs ≡ true → (has_star (elements xs) ≡ false) × (length (elements xs) ≡ length xs)
literal-size [] h = rw elements-nil (refl, refl)
literal-size (x ∷ xs) h =
    let parts = and_parts _ _ h in
    let rest = literal-size xs parts.1 in
    rw (elements-itself x xs (not-true _ parts.0)) (rest.0, ap suc rest.1)

-- a common front that goes on
equal-next : (test : Bool) (n k : ℕ) → cond test (1 + n) 0 ≡ suc k → (test ≡ true) × (n ≡ k)
equal-next true n k e = (refl, omega arith)
equal-next false n k e = absurd (omega arith)

-- a common front that stops at once
equal-none : (test : Bool) (n : ℕ) → cond test (1 + n) 0 ≡ 0 → test ≡ false
equal-none true n e = absurd (omega arith)
equal-none false n e = refl

-- all bytes are equal
literal-whole : (xs ys : List ℕ) → is_literal_text xs ≡ true → length xs ≡ length ys → common_prefix_len nat_eq xs ys ≡ length xs →
    Goes BothEnd (length xs) (elements xs) ys []
literal-whole [] [] h same whole = (elements-nil, refl)
literal-whole [] (y ∷ ys) h same whole = absurd (omega arith)
literal-whole (x ∷ xs) [] h same whole = absurd (omega arith)
literal-whole (x ∷ xs) (y ∷ ys) h same whole =
    let parts = and_parts _ _ h in
    let next = equal-next (x == y) _ (length xs) whole in
    rw (elements-itself x xs (not-true _ parts.0)) (next.0, literal-whole xs ys parts.1 (omega arith) next.1)

-- a byte refuses
literal-part : (k : ℕ) (xs ys : List ℕ) → is_literal_text xs ≡ true → length xs ≡ length ys → common_prefix_len nat_eq xs ys ≡ k →
    k < length xs → Goes Refused k (elements xs) ys []
literal-part k [] ys h same is short = absurd (omega arith)
literal-part k (x ∷ xs) [] h same is short = absurd (omega arith)
literal-part zero (x ∷ xs) (y ∷ ys) h same is short =
    let parts = and_parts _ _ h in
    rw (elements-itself x xs (not-true _ parts.0)) (ap not (equal-none (x == y) _ is))
literal-part (suc k) (x ∷ xs) (y ∷ ys) h same is short =
    let parts = and_parts _ _ h in
    let next = equal-next (x == y) _ k is in
    rw (elements-itself x xs (not-true _ parts.0)) (next.0, literal-part k xs ys parts.1 (omega arith) next.1 (omega arith))

-- comparing byte by byte is comparing the compared texts
common-compared : (cased : Bool) (xs ys : List ℕ) →
    common_prefix_len nat_eq (compared cased xs) (compared cased ys) ≡ common_prefix_len (λ x y. agrees cased (x, y)) xs ys
common-compared cased [] ys = refl
common-compared cased (x ∷ xs) [] = refl
common-compared cased (x ∷ xs) (y ∷ ys) =
    ap (λ n. cond (compared_byte cased x == compared_byte cased y) (1 + n) 0) (common-compared cased xs ys)

module _ (cased : Bool) (ending : List ℕ) (literal : is_literal_text ending ≡ true) where
  -- an ending without special bytes compares as it stands
  plain : is_literal_text (compared cased ending) ≡ true
  plain = is_literal_text-compared cased ending ∙ literal

  -- no star is in it
  pub ending-star : has_star (elements (compared cased ending)) ≡ false
  ending-star = (literal-size (compared cased ending) plain).0

  -- it has an element a byte
  pub ending-size : length ending ≡ length (elements (compared cased ending))
  ending-size = sym ((literal-size (compared cased ending) plain).1 ∙ length-map ending (compared_byte cased))

  module _ (name : List ℕ) (same : length ending ≡ length name) where
    long : length (compared cased ending) ≡ length (compared cased name)
    long = length-map ending (compared_byte cased) ∙ same ∙ sym (length-map name (compared_byte cased))

    -- a name that is compared as equal is taken whole
    pub ending-whole : common_prefix_len (λ x y. agrees cased (x, y)) ending name ≡ length ending →
        Goes BothEnd (length ending) (elements (compared cased ending)) (compared cased name) []
    ending-whole whole =
        rw (length-map ending (compared_byte cased)) at
        (literal-whole (compared cased ending) (compared cased name) plain long
        (common-compared cased ending name ∙ whole ∙ sym (length-map ending (compared_byte cased))))

    -- at the first difference it refuses
    pub ending-part : (k : ℕ) → k ≡ common_prefix_len (λ x y. agrees cased (x, y)) ending name → k < length ending →
        Goes Refused k (elements (compared cased ending)) (compared cased name) []
    ending-part k is short =
        literal-part k (compared cased ending) (compared cased name) plain long (common-compared cased ending name ∙ sym is)
        (omega (arith, length-map ending (compared_byte cased)))

-- a byte that stands for itself, and another byte
pub other-refused : (cased : Bool) (pattern : List ℕ) (first : ℕ) (after : List ℕ) → pattern ≡ first ∷ after → is_special first ≡ false →
    (name : List ℕ) (byte : ℕ) (rest : List ℕ) → name ≡ byte ∷ rest → (compared_byte cased first == compared_byte cased byte) ≡ false →
    refuses (elements (compared cased pattern)) (compared cased name) ≡ true
other-refused cased pattern first after is itself name byte rest is_name other =
    rw (is, is_name, elements-itself (compared_byte cased first) (compared cased after) (is_special-compared cased first ∙ itself))
    (ap not other)

-- it is no match
pub refused-unended : Refused ≡ BothEnd → ⊥
refused-unended is = absurd cc

-- and refused in one test
pub refused-first : (es : List Element) (name : List ℕ) → refuses es name ≡ true → (matches es name ≡ false) × (tests_of es name ≡ 1)
refused-first es name refused = (goes-decided Refused 0 es name [] refused, goes-tests Refused 0 es name [] refused)

-- a star before a text that stands for itself
module _ (pattern : List ℕ) (cased : Bool) (name after : List ℕ) (is : pattern ≡ 42 ∷ after) where
  -- the pattern matches as its elements do
  pub star-matches : rule_matches pattern cased name ≡ matches (any_bytes ∷ elements (compared cased after)) (compared cased name)
  star-matches =
      rule_matches-compared pattern cased name
      ∙ ap (λ text. matches (elements (compared cased text)) (compared cased name)) is
      ∙ ap (λ es. matches es (compared cased name)) (elements-star cased after)

  -- its tests are theirs
  pub star-tests : rule_tests pattern cased name ≡ tests_of (any_bytes ∷ elements (compared cased after)) (compared cased name)
  star-tests =
      rule_tests-compared pattern cased name
      ∙ ap (λ text. tests_of (elements (compared cased text)) (compared cased name)) is
      ∙ ap (λ es. tests_of es (compared cased name)) (elements-star cased after)

  -- and the least of them
  pub star-least : (found : Bool) →
      least_tests found (elements (compared cased pattern)) ≡ least_tests found (elements (compared cased after))
  star-least found =
      ap (λ text. least_tests found (elements (compared cased text))) is
      ∙ ap (least_tests found) (elements-star cased after)
      ∙ unstarred found
    where
      unstarred : (found : Bool) →
          least_tests found (any_bytes ∷ elements (compared cased after)) ≡ least_tests found (elements (compared cased after))
      unstarred true = refl
      unstarred false = refl
