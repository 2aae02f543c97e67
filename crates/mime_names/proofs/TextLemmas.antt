-- Patterns that are a text, or a star and a text: the names that they match.
use Rattle.std.proofs.Common.{◌≡◌, ℕ, ◌-◌, ◌==◌, Bool, true, false, not, cond, ◌&&◌, List, [], ◌∷◌, length, drop}
use Rattle.std.proofs.Common.{refl, sym, ap, ap₂, subst, ◌∙◌, arith}
use Rattle.std.proofs.lemmas.Bool.{and_from, and_parts, eq-eqb, eqb-true, false_from_ne_true, not-true}
use Rattle.std.proofs.lemmas.List.{drop-map, length-map}
use Rattle.mime_base.specs.Kept.Classes.{class_of}
use Rattle.mime_base.specs.Matching.Elements.{elements, is_literal_text, is_special}
use Rattle.mime_base.specs.Matching.Folding.{compared, compared_byte}
use Rattle.mime_base.specs.Matching.Matches.{EndsSo, matches, rule_matches}
use Rattle.mime_base.specs.declared.kept.class.Class.TheVariants.{Literal, Suffix, Full}
use Rattle.mime_base.proofs.MatchingLemmas.Endings.{elements-itself, star-matches}
use Rattle.mime_base.proofs.MatchingLemmas.Matches.{matches-nil, matches-one, rule_matches-compared, star_cut, star_from}
use Rattle.mime_base.proofs.MatchingLemmas.Places.{elements-nil}
use Rattle.mime_base.proofs.MatchingLemmas.Sets.{is_literal_text-compared}

-- a text that stands for itself matches no other
pub text-alone : (text name : List ℕ) → is_literal_text text ≡ true → matches (elements text) name ≡ true → name ≡ text
text-alone [] [] literal found = refl
text-alone [] (b ∷ name) literal found = absurd (let no = rw (elements-nil, matches-nil) at found in cc)
text-alone (b ∷ rest) [] literal found =
    let parts = and_parts (not (is_special b)) (is_literal_text rest) literal in
    absurd (let no = rw (elements-itself b rest (not-true _ parts.0), matches-one) at found in cc)
text-alone (b ∷ rest) (c ∷ name) literal found =
    let parts = and_parts (not (is_special b)) (is_literal_text rest) literal in
    let both = and_parts (b == c) (matches (elements rest) name) (rw (elements-itself b rest (not-true _ parts.0), matches-one) at found) in
    ap₂ (λ x xs. x ∷ xs) (sym (eqb-true b c both.0)) (text-alone rest name parts.1 both.1)

-- a literal is such a text
pub literal-text : (pattern : List ℕ) → class_of pattern ≡ Literal → is_literal_text pattern ≡ true
unfolding class_of
literal-text [] is = refl
literal-text (b ∷ rest) is = by_cases (is_literal_text (b ∷ rest)) (b == 42 && is_literal_text rest) refl is
  where
    by_cases : (whole ending : Bool) → is_literal_text (b ∷ rest) ≡ whole → cond whole Literal (cond ending Suffix Full) ≡ Literal →
        is_literal_text (b ∷ rest) ≡ true
    by_cases true ending whole is = whole
    by_cases false true whole is = absurd cc
    by_cases false false whole is = absurd cc

-- a suffix is one after a star
pub suffix-text : (pattern : List ℕ) → class_of pattern ≡ Suffix → (rest : List ℕ) × (pattern ≡ 42 ∷ rest) × (is_literal_text rest ≡ true)
unfolding class_of
suffix-text [] is = absurd cc
suffix-text (b ∷ rest) is = by_cases (is_literal_text (b ∷ rest)) (b == 42) (is_literal_text rest) refl refl is
  where
    by_cases : (whole star ending : Bool) → (b == 42) ≡ star → is_literal_text rest ≡ ending →
        cond whole Literal (cond (star && ending) Suffix Full) ≡ Suffix →
        (after : List ℕ) × (b ∷ rest ≡ 42 ∷ after) × (is_literal_text after ≡ true)
    by_cases true star ending first after is = absurd cc
    by_cases false true true first after is = (rest, ap (λ x. x ∷ rest) (eqb-true b 42 first), after)
    by_cases false true false first after is = absurd cc
    by_cases false false ending first after is = absurd cc

-- a text that stands for itself matches itself
text-itself : (text : List ℕ) → is_literal_text text ≡ true → matches (elements text) text ≡ true
text-itself [] literal = rw (elements-nil, matches-nil) refl
text-itself (b ∷ rest) literal =
    let parts = and_parts (not (is_special b)) (is_literal_text rest) literal in
    rw (elements-itself b rest (not-true _ parts.0), matches-one) (and_from _ _ (eq-eqb b b refl) (text-itself rest parts.1))

module _ (pattern : List ℕ) (cased : Bool) (name : List ℕ) where
  -- a name that is compared as a literal is matches it
  pub literal-match : class_of pattern ≡ Literal → compared cased pattern ≡ compared cased name → rule_matches pattern cased name ≡ true
  literal-match is same =
      let literal = is_literal_text-compared cased pattern ∙ literal-text pattern is in
      rule_matches-compared pattern cased name
      ∙ ap (matches (elements (compared cased pattern))) (sym same)
      ∙ text-itself (compared cased pattern) literal

  -- and no other does
  pub literal-same : class_of pattern ≡ Literal → rule_matches pattern cased name ≡ true → compared cased name ≡ compared cased pattern
  literal-same is found =
      text-alone (compared cased pattern) (compared cased name) (is_literal_text-compared cased pattern ∙ literal-text pattern is)
      (sym (rule_matches-compared pattern cased name) ∙ found)

  -- a name of another length doesn't
  pub literal-longer : class_of pattern ≡ Literal → (length pattern ≡ length name → ⊥) → rule_matches pattern cased name ≡ false
  literal-longer is other = false_from_ne_true _ (λ found.
      other (sym (length-map pattern (compared_byte cased)) ∙ ap length (sym (literal-same is found)) ∙ length-map name (compared_byte cased)))

  -- a name of which no ending is compared as a literal is doesn't
  pub literal-other : class_of pattern ≡ Literal → ((k : ℕ) → compared cased (drop k name) ≡ compared cased pattern → ⊥) →
      rule_matches pattern cased name ≡ false
  literal-other is other = false_from_ne_true _ (λ found. other 0 (literal-same is found))

  module _ (rest : List ℕ) (is : pattern ≡ 42 ∷ rest) (literal : is_literal_text rest ≡ true) where
    -- the ending that a name has which a star and a text matches
    pub suffix-same : rule_matches pattern cased name ≡ true → (k : ℕ) × (compared cased (drop k name) ≡ compared cased rest)
    suffix-same found =
        let cut = star_cut (elements (compared cased rest)) (compared cased name) (sym (star-matches pattern cased name rest is) ∙ found) in (
          cut.0,
          sym (drop-map (compared_byte cased) cut.0 name)
              ∙ text-alone (compared cased rest) (drop cut.0 (compared cased name)) (is_literal_text-compared cased rest ∙ literal) cut.1,
        )

    -- a name that ends so matches
    pub suffix-match : EndsSo cased rest name → rule_matches pattern cased name ≡ true
    suffix-match ends =
        let cut = length name - length rest in
        star-matches pattern cased name rest is
        ∙ star_from (elements (compared cased rest)) cut (compared cased name)
        (ap (matches (elements (compared cased rest))) (drop-map (compared_byte cased) cut name ∙ sym ends)
        ∙ text-itself (compared cased rest) (is_literal_text-compared cased rest ∙ literal))

    -- one of which no ending is compared as the text doesn't
    pub suffix-other : ((k : ℕ) → compared cased (drop k name) ≡ compared cased rest → ⊥) → rule_matches pattern cased name ≡ false
    suffix-other other = false_from_ne_true _ (λ found. (let ending = suffix-same found in other ending.0 ending.1))

  -- what is found of a literal by a comparison from the end is whether it matches
  pub literal-exact : class_of pattern ≡ Literal → length pattern ≡ length name → (found : Bool) → (found ≡ true → EndsSo cased pattern name) →
      (found ≡ false → (k : ℕ) → compared cased (drop k name) ≡ compared cased pattern → ⊥) → found ≡ rule_matches pattern cased name
  literal-exact is long true so other =
      sym (literal-match is (so refl ∙ ap (λ k. compared cased (drop k name)) {x = length name - length pattern} {y = 0} (omega (arith, long))))
  literal-exact is long false so other = sym (literal-other is (other refl))

  -- and of a text after a star
  pub suffix-exact : class_of pattern ≡ Suffix → (text : List ℕ) → ((first : ℕ) → (rest : List ℕ) → pattern ≡ first ∷ rest → text ≡ rest) →
      (found : Bool) → (found ≡ true → EndsSo cased text name) →
      (found ≡ false → (k : ℕ) → compared cased (drop k name) ≡ compared cased text → ⊥) → found ≡ rule_matches pattern cased name
  suffix-exact is text after found so other =
      let own = suffix-text pattern is in
      let same = after 42 own.0 own.1 in
      by_found found (λ yes. subst (λ xs. EndsSo cased xs name) same (so yes))
      (λ no. subst (λ xs. (k : ℕ) → compared cased (drop k name) ≡ compared cased xs → ⊥) same (other no))
    where
      by_found : (b : Bool) → (b ≡ true → EndsSo cased (suffix-text pattern is).0 name) →
          (b ≡ false → (k : ℕ) → compared cased (drop k name) ≡ compared cased (suffix-text pattern is).0 → ⊥) → b ≡ rule_matches pattern cased name
      by_found true so other = sym (suffix-match (suffix-text pattern is).0 (suffix-text pattern is).1 (suffix-text pattern is).2 (so refl))
      by_found false so other = sym (suffix-other (suffix-text pattern is).0 (suffix-text pattern is).1 (suffix-text pattern is).2 (other refl))
