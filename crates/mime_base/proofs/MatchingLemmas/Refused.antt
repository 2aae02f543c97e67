-- Places of a name that refuse the byte that a pattern begins with.
use Rattle.std.proofs.Common.{◌≡◌, ℕ, zero, suc, ◌+◌, ◌<◌, ◌≤◌, ◌==◌, Bool, true, false, true≢false, inl, List, [], ◌∷◌}
use Rattle.std.proofs.Common.{length, length-drop, drop, drop-cons, get_or, refl, sym, ap, subst, ◌∙◌, arith, eq-eqb}
use Rattle.std.proofs.lemmas.Bool.{eqb-true, false_from_ne_true}
use Rattle.std.proofs.lemmas.List.{drop-drop, drop_all}
use Rattle.mime_base.specs.Matching.Attempt.{Goes, refuses, takes_a_byte}
use Rattle.mime_base.specs.Matching.Count.{has_star, tests_of}
use Rattle.mime_base.specs.Matching.Elements.{Element, any_bytes, one, elements, is_special}
use Rattle.mime_base.specs.Matching.Folding.{compared, compared_byte}
use Rattle.mime_base.specs.Matching.Matches.{matches}
use Rattle.mime_base.specs.declared.matching.attempt.Halt.TheVariants.{NameEnds, Refused}
use Rattle.mime_base.proofs.MatchingLemmas.Endings.{elements-itself, other-refused}
use Rattle.mime_base.proofs.MatchingLemmas.Sets.{compared_byte-mark, is_special-compared}
use Rattle.mime_base.proofs.MatchingLemmas.Slides.{refused-from, tests-next}

-- a byte that stands for itself, and that folding makes of no other, refuses every other byte
pub itself-refuses : (pattern : List ℕ) (first : ℕ) (after : List ℕ) → pattern ≡ first ∷ after → is_special first ≡ false → first < 65 →
    (cased : Bool) (byte : ℕ) (rest : List ℕ) → (byte == first) ≡ false →
    refuses (elements (compared cased pattern)) (compared cased (byte ∷ rest)) ≡ true
itself-refuses pattern first after is plain low cased byte rest differs =
    let same : compared_byte cased first ≡ first =
    eqb-true _ _ (compared_byte-mark cased first first (inl low) ∙ eq-eqb first first refl) in
    let other : (compared_byte cased byte == first) ≡ false = compared_byte-mark cased byte first (inl low) ∙ differs in
    other-refused cased pattern first after is plain (byte ∷ rest) byte rest refl
    (false_from_ne_true _ (λ e. true≢false (sym (eq-eqb _ _ (sym (eqb-true _ _ e) ∙ same)) ∙ other)))

-- a byte that stands for itself and takes a byte, and elements that refuse the next one
pub second-refused : (cased : Bool) (pattern : List ℕ) (first : ℕ) (after : List ℕ) → pattern ≡ first ∷ after → is_special first ≡ false →
    (name : List ℕ) (byte : ℕ) (rest : List ℕ) → name ≡ byte ∷ rest → (compared_byte cased first == compared_byte cased byte) ≡ true →
    refuses (elements (compared cased after)) (compared cased rest) ≡ true →
    Goes Refused 1 (elements (compared cased pattern)) (compared cased name) []
second-refused cased pattern first after is itself name byte rest is_name same refused =
    rw (is, is_name, elements-itself (compared_byte cased first) (compared cased after) (is_special-compared cased first ∙ itself))
    (same, refused)

module _ (cased : Bool) (es : List Element) (name : List ℕ) (first : ℕ)
    (refusing : (byte : ℕ) (rest : List ℕ) → (byte == first) ≡ false → refuses es (compared cased (byte ∷ rest)) ≡ true) where
  -- the elements after a star are left to the places after those of other bytes, each of which takes one test
  pub passed-over : (n : ℕ) → n ≤ length name → ((k : ℕ) → k < n → (get_or name k 0 == first) ≡ true → ⊥) →
      (matches (any_bytes ∷ es) (compared cased name) ≡ matches (any_bytes ∷ es) (compared cased (drop n name)))
      × (has_star es ≡ true → tests_of (any_bytes ∷ es) (compared cased name)
      ≡ n + tests_of (any_bytes ∷ es) (compared cased (drop n name)))
  passed-over zero within others = (refl, λ star. omega arith)
  passed-over (suc n) within others =
      let before = passed-over n (omega arith) (λ k l. others k (omega arith)) in
      let byte : drop n name ≡ get_or name n 0 ∷ drop (suc n) name = drop-cons name n 0 (omega arith) in
      let goes : refuses es (compared cased (drop n name)) ≡ true =
      subst (λ (text : List ℕ). refuses es (compared cased text) ≡ true) (sym byte)
      (refusing (get_or name n 0) (drop (suc n) name) (false_from_ne_true _ (others n (omega arith)))) in
      let e : n + 1 ≡ suc n = omega arith in (
        before.0 ∙ (refused-from cased es name n 0 es goes).1
            ∙ ap (λ (k : ℕ). matches (any_bytes ∷ es) (compared cased (drop k name))) e,
        λ star. (let next = tests-next cased es name n 0 es star goes in
            let there : tests_of (any_bytes ∷ es) (compared cased (drop (n + 1) name))
            ≡ tests_of (any_bytes ∷ es) (compared cased (drop (suc n) name)) =
            ap (λ (k : ℕ). tests_of (any_bytes ∷ es) (compared cased (drop k name))) e in
            omega (arith, before.1 star, next, there)),
      )

-- what refuses a byte takes one
refuses-takes : (es : List Element) (name : List ℕ) → refuses es name ≡ true → takes_a_byte es ≡ true
refuses-takes [] name is = is
refuses-takes (any_bytes ∷ es) name is = is
refuses-takes (one w ∷ es) name is = refl

-- where all bytes but one are refused, a byte is taken
pub refusing-takes : (cased : Bool) (es : List Element) (first : ℕ)
    → ((byte : ℕ) (rest : List ℕ) → (byte == first) ≡ false → refuses es (compared cased (byte ∷ rest)) ≡ true) → takes_a_byte es ≡ true
refusing-takes cased es first refusing =
    refuses-takes es _ (refusing (suc first) [] (false_from_ne_true _ (λ is. absurd (omega (arith, eqb-true _ _ is)))))

-- at the end of a name an element that takes a byte halts
pub end-goes : (cased : Bool) (es : List Element) (name : List ℕ) (start : ℕ) → takes_a_byte es ≡ true → start ≡ length name
    → Goes NameEnds 0 es (compared cased (drop start name)) es
end-goes cased es name start takes is = (takes, ap (compared cased) (drop_all start name (omega (arith, is))))

-- the same from a place on, which are no more than there are
pub passed-within : (name : List ℕ) (start n : ℕ) → start ≤ length name → n ≤ length (drop start name) → start + n ≤ length name
passed-within name start n within l = omega (arith, length-drop start name)

-- they leave the elements to the places after them, and each takes one test
module _ (cased : Bool) (es : List Element) (name : List ℕ) (start n : ℕ) where
  -- over the next byte nothing else is matched
  pub passed-same : matches (any_bytes ∷ es) (compared cased (drop start name)) ≡ matches (any_bytes ∷ es) (compared cased (drop n (drop start name)))
      → matches (any_bytes ∷ es) (compared cased (drop start name)) ≡ matches (any_bytes ∷ es) (compared cased (drop (start + n) name))
  passed-same same = same ∙ ap (λ (text : List ℕ). matches (any_bytes ∷ es) (compared cased text)) (drop-drop n start name)

  -- and one test more is made
  pub passed-tests : tests_of (any_bytes ∷ es) (compared cased (drop start name)) ≡ n + tests_of (any_bytes ∷ es) (compared cased (drop n (drop start name)))
      → tests_of (any_bytes ∷ es) (compared cased (drop start name)) ≡ n + tests_of (any_bytes ∷ es) (compared cased (drop (start + n) name))
  passed-tests made = made ∙ ap (λ (text : List ℕ). n + tests_of (any_bytes ∷ es) (compared cased text)) (drop-drop n start name)
