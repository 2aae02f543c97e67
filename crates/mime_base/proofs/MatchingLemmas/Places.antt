-- The elements of what stands at a place of a pattern, and how far they have gone.
use Rattle.std.proofs.Common.{◌≡◌, ℕ, suc, zero, ◌+◌, Bool, true, false, cond, not, ◌==◌, ◌≤◌, List, [], ◌∷◌, length}
use Rattle.std.proofs.Common.{drop, refl, ap, sym, ◌∙◌, inl, arith, lit<, add-zero, eq-eqb, ◌<◌, length-drop}
use Rattle.std.proofs.lemmas.Bool.{ne_eqb, eqb-true}
use Rattle.std.proofs.lemmas.List.{drop-map, length-map, nil_from_length}
use Rattle.mime_base.specs.Matching.Elements.{Element, any_bytes, one, admits, element, elements, elements_after}
use Rattle.mime_base.specs.Matching.Elements.{singles, one_byte, width_after}
use Rattle.mime_base.specs.Matching.Count.{has_star}
use Rattle.mime_base.specs.Matching.Folding.{compared, compared_byte}
use Rattle.mime_base.specs.Matching.Attempt.{Goes, HaltsAt, TakesOne, refuses, takes_a_byte}
use Rattle.mime_base.specs.declared.matching.attempt.Halt.{Halt}
use Rattle.mime_base.proofs.MatchingLemmas.Sets.{compared_byte-mark}

-- elements after some bytes are those of what is left
elements_after-drop : (k : ℕ) (text : List ℕ) → elements_after k text ≡ elements (drop k text)
unfolding elements
elements_after-drop zero [] = refl
elements_after-drop (suc k) [] = refl
elements_after-drop zero (b ∷ rest) = refl
elements_after-drop (suc k) (b ∷ rest) = elements_after-drop k rest

-- no element of no byte
pub elements-nil : elements [] ≡ []
unfolding elements
elements-nil = refl

-- the first element, and those of what stands after it
pub elements-cons : (b : ℕ) (rest : List ℕ) → elements (b ∷ rest) ≡ element b rest ∷ elements (drop (width_after b rest) rest)
unfolding elements
elements-cons b rest = ap (λ es. element b rest ∷ es) (elements_after-drop (width_after b rest) rest)

-- a `*` first
pub elements-star : (cased : Bool) (rest : List ℕ) → elements (compared cased (42 ∷ rest)) ≡ any_bytes ∷ elements (compared cased rest)
elements-star true rest = elements-cons 42 (compared true rest)
elements-star false rest = elements-cons 42 (compared false rest)

-- the first element of a text that begins with no star
elements-one : (first : ℕ) (rest : List ℕ) → (first ≡ 42 → ⊥) →
    elements (first ∷ rest) ≡ one (one_byte first rest) ∷ elements (drop (width_after first rest) rest)
elements-one first rest other =
    elements-cons first rest
    ∙ ap (λ b. cond b any_bytes (one (one_byte first rest)) ∷ elements (drop (width_after first rest) rest)) (ne_eqb first 42 other)

-- any other byte first: an element that takes one byte
pub elements-taker : (cased : Bool) (first : ℕ) (rest : List ℕ) → (first ≡ 42 → ⊥) →
    let after = compared cased rest in let start = compared_byte cased first in
    elements (compared cased (first ∷ rest))
    ≡ one (one_byte start after) ∷ elements (compared cased (drop (width_after start after) rest))
elements-taker cased first rest other =
    let mark = compared_byte-mark cased first 42 (inl (lit< tt)) in
    rw (sym (drop-map (compared_byte cased) (width_after (compared_byte cased first) (compared cased rest)) rest))
    (elements-one (compared_byte cased first) (compared cased rest) (λ e. other (eqb-true _ _ (sym mark ∙ eq-eqb _ _ e))))

-- at most one element a byte

-- there are no more elements than bytes
singles-after : (k : ℕ) (text : List ℕ) → singles (elements_after k text) ≤ length text
singles-after k [] = omega arith
singles-after zero (b ∷ rest) = step (b == 42) (singles-after (width_after b rest) rest)
  where
    step : (star : Bool) → singles (elements_after (width_after b rest) rest) ≤ length rest →
        singles (cond star any_bytes (one (one_byte b rest)) ∷ elements_after (width_after b rest) rest) ≤ suc (length rest)
    step true h = omega arith
    step false h = omega arith
singles-after (suc k) (b ∷ rest) = let h = singles-after k rest in omega arith

-- at most one element a byte, also folded
pub singles-length : (cased : Bool) (text : List ℕ) → singles (elements (compared cased text)) ≤ length text
unfolding elements
singles-length cased text = omega (arith, singles-after 0 (compared cased text), length-map text (compared_byte cased))

-- what is known of all elements and the whole name, once these are left of both
pub record Reached (all : List Element) (name : List ℕ) (passed : ℕ) (left : List Element) (rest : List ℕ) : Type 0 where
  pub onward : (halt : Halt) (k : ℕ) (after : List Element) → Goes halt k left rest after → Goes halt (passed + k) all name after

-- one element more took its byte
pub reached-one : (all : List Element) (name : List ℕ) (passed : ℕ) (left : List Element) (rest : List ℕ)
    (next : List Element) (after : List ℕ) →
    Reached all name passed left rest → TakesOne left rest next after → Reached all name (passed + 1) next after
reached-one all name passed [] rest next after reached taken = absurd taken
reached-one all name passed (any_bytes ∷ left) rest next after reached taken = absurd taken
reached-one all name passed (one w ∷ left) [] next after reached taken = absurd taken
reached-one all name passed (one w ∷ left) (b ∷ rest) next after reached (admitted, is_left, is_rest) = record {
  onward = λ halt k after goes. (let same : passed + 1 + k ≡ passed + suc k = omega arith in
      rw same (reached.onward halt (suc k) after (admitted, rw (is_left, is_rest) at goes)));
}

-- where they halt, the whole way is known
pub reached-halt : (all : List Element) (name : List ℕ) (passed : ℕ) (left : List Element) (rest : List ℕ)
    (halt : Halt) (after : List Element) →
    Reached all name passed left rest → HaltsAt halt left rest after → Goes halt passed all name after
reached-halt all name passed left rest halt after reached halts =
    rw add-zero at (reached.onward halt 0 after halts)

-- a step, where the first byte of the pattern and of the name are known

module _ (cased : Bool) (pattern : List ℕ) where
  -- the pattern is at its end
  pub none-left : length pattern ≡ 0 → elements (compared cased pattern) ≡ []
  none-left over = rw (nil_from_length pattern over) elements-nil

module _ (cased : Bool) (pattern : List ℕ) (first : ℕ) (after : List ℕ) (is : pattern ≡ first ∷ after) where
  -- a star is first
  pub star-next : first ≡ 42 → elements (compared cased pattern) ≡ any_bytes ∷ elements (compared cased after)
  star-next e = rw (is, e) (elements-star cased after)

  -- an element that takes a byte is first
  pub taker-next : (first ≡ 42 → ⊥) → takes_a_byte (elements (compared cased pattern)) ≡ true
  taker-next other = rw (is, elements-taker cased first after other) refl

  module _ (other : first ≡ 42 → ⊥) (name : List ℕ) (byte : ℕ) (rest : List ℕ) (is_name : name ≡ byte ∷ rest)
      (start b : ℕ) (is_start : start ≡ compared_byte cased first) (is_b : b ≡ compared_byte cased byte) where
    -- it admits the byte and takes it
    pub taken : true ≡ admits (one_byte start (compared cased after)) b →
        (left : List ℕ) → left ≡ drop (width_after start (compared cased after)) after →
        TakesOne (elements (compared cased pattern)) (compared cased name) (elements (compared cased left)) (compared cased rest)
    taken admitted left is_left =
        rw (is, is_name, elements-taker cased first after other, is_left, is_start)
        (rw (is_start, is_b) at (sym admitted), refl, refl)

    -- it does not admit the byte
    pub not_taken : false ≡ admits (one_byte start (compared cased after)) b →
        refuses (elements (compared cased pattern)) (compared cased name) ≡ true
    not_taken refused =
        rw (is, is_name, elements-taker cased first after other) (ap not (rw (is_start, is_b) at (sym refused)))

-- a text whose first element is no star: what is left has all the others
pub taker-left : (cased : Bool) (text : List ℕ) (first : ℕ) (after : List ℕ) → text ≡ first ∷ after → (first ≡ 42 → ⊥) →
    (start : ℕ) → start ≡ compared_byte cased first → (left : List ℕ) → left ≡ drop (width_after start (compared cased after)) after →
    (has_star (elements (compared cased text)) ≡ has_star (elements (compared cased left)))
    × (length (elements (compared cased text)) ≡ 1 + length (elements (compared cased left))) × (length left < length text)
taker-left cased text first after is other start is_start left is_left =
    let taker = elements-taker cased first after other in
    let shorter : length left < length text =
    omega (arith, ap length is, ap length is_left, length-drop (width_after start (compared cased after)) after) in
    let all : elements (compared cased text) ≡ one (one_byte start (compared cased after)) ∷ elements (compared cased left) =
    rw (is, is_left, is_start) taker in
    (ap has_star all, omega (arith, ap length all), shorter)
