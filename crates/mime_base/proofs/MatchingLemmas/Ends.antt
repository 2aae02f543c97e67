-- Where no `]` stands at the end of a pattern: what is left of the pattern has none there either, and a `[` there
-- begins no set.
use Rattle.std.proofs.Common.{◌≡◌, ℕ, zero, suc, ◌+◌, ◌-◌, ◌<◌, ◌≤◌, false, not, ◌==◌, List, [], ◌∷◌}
use Rattle.std.proofs.Common.{length, drop, get_or, None, Some, refl, arith}
use Rattle.std.specs.List.{prefix_len, position}
use Rattle.std.proofs.lemmas.Bool.{eq-eqb, le-ltb, ne_eqb}
use Rattle.memchr.specs.Find.{IsLastByte, is_byte}
use Rattle.mime_base.specs.Matching.Elements.{HasNoEnd}

-- what is left of a text
pub no_end-drop : (count k : ℕ) (text : List ℕ) → HasNoEnd count text → HasNoEnd count (drop k text)
no_end-drop count zero text none = none
no_end-drop count (suc k) [] none = none
no_end-drop count (suc k) (b ∷ rest) none = no_end-drop count k rest none.1

-- no end is among that many bytes
no_end-prefix : (count : ℕ) (text : List ℕ) → HasNoEnd count text → length text ≤ count →
    prefix_len (λ b. not (b == 93)) text ≡ length text
no_end-prefix count [] none short = refl
no_end-prefix count (b ∷ rest) none short =
    let other : (b == 93) ≡ false = ne_eqb b 93 (none.0 (omega arith)) in
    rw (other, no_end-prefix count rest none.1 (omega arith)) (omega arith)

-- no end of a set is found in it
pub no_end-position : (count : ℕ) (text : List ℕ) → HasNoEnd count text → length text ≤ count → position (λ b. b == 93) text ≡ None
no_end-position count text none short =
    let whole = no_end-prefix count text none short in
    rw (whole, le-ltb (length text) (length text) (omega arith)) refl

-- what no place of the last bytes is an end of has none
no_end-from : (count : ℕ) (text : List ℕ) →
    ((i : ℕ) → length text ≤ i + count → i < length text → get_or text i 0 ≡ 93 → ⊥) → HasNoEnd count text
no_end-from count [] others = tt
no_end-from count (b ∷ rest) others = (
  λ short e. others 0 (omega arith) (omega arith) e,
  no_end-from count rest (λ i far within e. others (suc i) (omega arith) (omega arith) e),
)

-- what a search from the back for a `]` tells: there is none, or none after the last
pub no_end-none : (text : List ℕ) → IsLastByte (is_byte 93) text None → HasNoEnd (length text) text
no_end-none text none = no_end-from (length text) text (λ i far within e. none i (omega arith) within (eq-eqb _ _ e))

-- or none after the last
pub no_end-some : (text : List ℕ) (last : ℕ) → IsLastByte (is_byte 93) text (Some last) → HasNoEnd (length text - last - 1) text
no_end-some text last found =
    no_end-from (length text - last - 1) text
    (λ i far within e. found.0.after i (let high : last < length text = found.0.high in omega arith) within (eq-eqb _ _ e))

-- what is left of a pattern after its first element
pub no_end-left : (count width first : ℕ) (pattern after left : List ℕ) → pattern ≡ first ∷ after → left ≡ drop width after →
    HasNoEnd count pattern → HasNoEnd count left
no_end-left count width first pattern after left is is_left none =
    let whole : HasNoEnd count (first ∷ after) = rw is at none in
    rw is_left (no_end-drop count width after whole.1)
