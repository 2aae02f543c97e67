-- The first byte of a general pattern: a name that it matches begins so.
use Rattle.std.proofs.Common.{◌≡◌, inl, inr, ℕ, ◌<◌, ◌≤◌, ◌==◌, Bool, true, false, cond, List, [], ◌∷◌}
use Rattle.std.proofs.Common.{length, get_or, refl, sym, ap, subst, ◌∙◌, arith}
use Rattle.std.proofs.lemmas.Bool.{and_parts, cases_lt, eqb-true, true≢false}
use Rattle.mime_base.specs.Matching.Elements.{is_special}
use Rattle.mime_base.specs.Matching.Folding.{compared, compared_byte, folded}
use Rattle.mime_base.specs.Matching.Matches.{rule_matches}
use Rattle.mime_base.proofs.MatchingLemmas.Endings.{elements-itself}
use Rattle.mime_base.proofs.MatchingLemmas.Matches.{matches-one, rule_matches-compared}
use Rattle.mime_base.proofs.MatchingLemmas.Sets.{is_special-compared}
use Rattle.mime_names.specs.Keys.{Begins, Fronts}
use Rattle.mime_names.specs.Near.{first_byte}

-- bytes that are compared as equal are equal folded
folded-equal : (cased : Bool) (x y : ℕ) → compared_byte cased x ≡ compared_byte cased y → folded x ≡ folded y
folded-equal false x y same = same
folded-equal true x y same = ap folded same

-- a name that a pattern matches begins as it does, where its first byte stands for itself
front-begins : (first : ℕ) (after : List ℕ) → is_special first ≡ false → (cased : Bool) (name : List ℕ) →
    rule_matches (first ∷ after) cased name ≡ true → Begins name (folded first)
front-begins first after itself cased [] found =
    absurd (true≢false (sym found ∙ rule_matches-compared (first ∷ after) cased []
    ∙ rw (elements-itself (compared_byte cased first) (compared cased after) (is_special-compared cased first ∙ itself), matches-one) refl))
front-begins first after itself cased (b ∷ rest) found =
    let both = and_parts (compared_byte cased first == compared_byte cased b) _
    (rw (elements-itself (compared_byte cased first) (compared cased after) (is_special-compared cased first ∙ itself), matches-one)
    at (sym (rule_matches-compared (first ∷ after) cased (b ∷ rest)) ∙ found)) in
    folded-equal cased first b (eqb-true _ _ both.0)

-- the key of a first byte, of a name that has one
pub begins-first : (name : List ℕ) (key : ℕ) → Begins name key → (0 < length name) × (key ≡ folded (get_or name 0 0))
begins-first [] key is = absurd is
begins-first (b ∷ rest) key is = (omega arith, is)

-- and that key is of the first byte
pub begins-from : (name : List ℕ) (key : ℕ) → 0 < length name → key ≡ folded (get_or name 0 0) → Begins name key
begins-from [] key some is = absurd (omega arith)
begins-from (b ∷ rest) key some is = is

-- the first byte of a general pattern
pub first_byte-cases : (pattern : List ℕ) → 0 < length pattern → (special : Bool) → is_special (get_or pattern 0 0) ≡ special →
    first_byte pattern ≡ cond special 256 (folded (get_or pattern 0 0))
first_byte-cases [] some special is = absurd (omega arith)
first_byte-cases (b ∷ rest) some special is = ap (λ s. cond s 256 (folded b)) is

-- of no pattern
pub first_byte-none : (pattern : List ℕ) → length pattern ≡ 0 → first_byte pattern ≡ 256
first_byte-none [] none = refl
first_byte-none (b ∷ rest) none = absurd (omega arith)

-- a name that a pattern matches begins with its first byte, where that stands for itself
first-begins : (pattern : List ℕ) (cased : Bool) (name : List ℕ) → first_byte pattern < 256 → rule_matches pattern cased name ≡ true →
    Begins name (first_byte pattern)
first-begins [] cased name small found = absurd (omega (arith, small))
first-begins (b ∷ rest) cased name small found = by_cases (is_special b) refl
  where
    by_cases : (special : Bool) → is_special b ≡ special → Begins name (first_byte (b ∷ rest))
    by_cases true is = absurd (omega (arith, small, ap (λ s. cond s 256 (folded b)) is))
    by_cases false is = subst (Begins name) (sym (ap (λ s. cond s 256 (folded b)) is)) (front-begins b rest is cased name found)

-- a name that a general pattern matches asks for its key
pub front-asks : (pattern : List ℕ) (key : ℕ) (cased : Bool) (name : List ℕ) → key ≡ first_byte pattern → key ≤ 256 →
    rule_matches pattern cased name ≡ true → Fronts name key
front-asks pattern key cased name is low found = elim (cases_lt key 256) [
  | inl small ↦ inr (small, subst (Begins name) (sym is) (first-begins pattern cased name (omega (arith, is, small)) found))
  | inr all ↦ inl (omega (arith, all, low))
]
