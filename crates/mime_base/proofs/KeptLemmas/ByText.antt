-- Patterns of which one text tells the names, whole or at their end: a name that one matches without case is matched
-- with case by one of its spellings.
use Rattle.std.proofs.Common.{◌≡◌, ℕ, ◌==◌, Bool, true, false, not, cond, ◌&&◌, ◌⊎◌, inl, inr}
use Rattle.std.proofs.Common.{List, [], ◌∷◌}
use Rattle.std.proofs.Common.{drop, refl, sym, ap, ap₂, ◌∙◌, lit<}
use Rattle.std.proofs.lemmas.Bool.{and_from, and_parts, eqb-true, eq-eqb, not-true}
use Rattle.std.proofs.lemmas.List.{drop-map}
use Rattle.mime_base.specs.Kept.Classes.{class_of}
use Rattle.mime_base.specs.Kept.Hidden.{is_by_text}
use Rattle.mime_base.specs.Matching.Elements.{elements, is_literal_text, is_special}
use Rattle.mime_base.specs.Matching.Folding.{compared, compared_byte}
use Rattle.mime_base.specs.Matching.Matches.{matches, rule_matches}
use Rattle.mime_base.specs.declared.kept.class.Class.TheVariants.{Literal, Suffix, Full}
use Rattle.mime_base.proofs.MatchingLemmas.Endings.{elements-itself, star-matches}
use Rattle.mime_base.proofs.MatchingLemmas.Matches.{matches-nil, matches-one, rule_matches-compared, star_cut, star_from}
use Rattle.mime_base.proofs.MatchingLemmas.Places.{elements-nil}
use Rattle.mime_base.proofs.MatchingLemmas.Sets.{compared_byte-mark, is_literal_text-compared}

-- a text that stands for itself matches itself
literal-itself : (text : List ℕ) → is_literal_text text ≡ true → matches (elements text) text ≡ true
literal-itself [] literal = rw elements-nil (matches-nil [])
literal-itself (b ∷ rest) literal =
    let parts = and_parts (not (is_special b)) (is_literal_text rest) literal in
    rw (elements-itself b rest (not-true _ parts.0), matches-one)
    (and_from (b == b) (matches (elements rest) rest) (eq-eqb b b refl) (literal-itself rest parts.1))

-- and no other
literal-alone : (text name : List ℕ) → is_literal_text text ≡ true → matches (elements text) name ≡ true → name ≡ text
literal-alone [] [] literal found = refl
literal-alone [] (b ∷ name) literal found = absurd (let no = rw (elements-nil, matches-nil) at found in cc)
literal-alone (b ∷ rest) [] literal found =
    let parts = and_parts (not (is_special b)) (is_literal_text rest) literal in
    absurd (let no = rw (elements-itself b rest (not-true _ parts.0), matches-one) at found in cc)
literal-alone (b ∷ rest) (c ∷ name) literal found =
    let parts = and_parts (not (is_special b)) (is_literal_text rest) literal in
    let both = and_parts (b == c) (matches (elements rest) name) (rw (elements-itself b rest (not-true _ parts.0), matches-one) at found) in
    ap₂ (λ x xs. x ∷ xs) (sym (eqb-true b c both.0)) (literal-alone rest name parts.1 both.1)

-- a pattern that is told by one text: it, or what stands after its star
by_text-cases : (pattern : List ℕ) → is_by_text (class_of pattern) ≡ true →
    (is_literal_text pattern ≡ true) ⊎ ((rest : List ℕ) × (pattern ≡ 42 ∷ rest) × (is_literal_text rest ≡ true))
unfolding class_of
by_text-cases [] by_text = inl refl
by_text-cases (b ∷ rest) by_text = by_cases (is_literal_text (b ∷ rest)) (b == 42) (is_literal_text rest) refl refl refl by_text
  where
    by_cases : (whole star ending : Bool) → is_literal_text (b ∷ rest) ≡ whole → (b == 42) ≡ star → is_literal_text rest ≡ ending →
        is_by_text (cond whole Literal (cond (star && ending) Suffix Full)) ≡ true →
        (is_literal_text (b ∷ rest) ≡ true) ⊎ ((after : List ℕ) × (b ∷ rest ≡ 42 ∷ after) × (is_literal_text after ≡ true))
    by_cases true star ending is first after by_text = inl is
    by_cases false true true is first after by_text = inr (rest, ap (λ x. x ∷ rest) (eqb-true b 42 first), after)
    by_cases false true false is first after by_text = absurd cc
    by_cases false false ending is first after by_text = absurd cc

-- folding leaves the class of a pattern as it is
pub class_of-compared : (cased : Bool) (text : List ℕ) → class_of (compared cased text) ≡ class_of text
unfolding class_of
class_of-compared cased [] = refl
class_of-compared cased (b ∷ rest) =
    rw (is_literal_text-compared cased (b ∷ rest), is_literal_text-compared cased rest, compared_byte-mark cased b 42 (inl (lit< tt))) refl

-- of each name that such a pattern matches without case there is a spelling that matches it with case
pub spelling : (pattern name : List ℕ) → is_by_text (class_of pattern) ≡ true → rule_matches pattern false name ≡ true →
    (text : List ℕ) × (compared false text ≡ compared false pattern) × (rule_matches text true name ≡ true)
spelling pattern name by_text found = elim (by_text-cases pattern by_text) [
  | inl literal ↦ (let same = literal-alone (compared false pattern) (compared false name)
      (is_literal_text-compared false pattern ∙ literal) (sym (rule_matches-compared pattern false name) ∙ found) in
      (name, same, rule_matches-compared name true name ∙ literal-itself (compared true name) (plain name pattern same literal)))
  | inr (rest, is, literal) ↦ (let cut = star_cut (elements (compared false rest)) (compared false name)
      (sym (star-matches pattern false name rest is) ∙ found) in
      let tail = drop cut.0 name in
      let same : compared false tail ≡ compared false rest = sym (drop-map (compared_byte false) cut.0 name)
      ∙ literal-alone (compared false rest) (drop cut.0 (compared false name)) (is_literal_text-compared false rest ∙ literal) cut.1 in (
        42 ∷ tail,
        ap (λ text. 42 ∷ text) same ∙ sym (ap (compared false) is),
        star-matches (42 ∷ tail) true name tail refl
            ∙ star_from (elements (compared true tail)) cut.0 (compared true name)
            (ap (matches (elements (compared true tail))) (drop-map (compared_byte true) cut.0 name)
            ∙ literal-itself (compared true tail) (plain tail rest same literal)),
      ))
]
  where
    plain : (text other : List ℕ) → compared false text ≡ compared false other → is_literal_text other ≡ true →
        is_literal_text (compared true text) ≡ true
    plain text other same literal =
        is_literal_text-compared true text ∙ sym (is_literal_text-compared false text) ∙ ap is_literal_text same
        ∙ is_literal_text-compared false other ∙ literal
