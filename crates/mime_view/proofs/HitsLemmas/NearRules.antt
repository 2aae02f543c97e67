-- The rules that a search or a walk visits for a name match it once all texts are folded.
use Rattle.std.proofs.Common.{◌≡◌, ℕ, ◌<◌, Bool, true, false, ◌&&◌, eqb, List, [], ◌∷◌, ◌++◌, length, drop, map}
use Rattle.std.proofs.Common.{reverse, bytes_eq, refl, sym, ap, ap₂, subst, ◌∙◌, arith}
use Rattle.std.specs.List.{starts_with}
use Rattle.std.proofs.lemmas.Bool.{and_from, and_parts}
use Rattle.std.proofs.lemmas.Bool.Decides.{nat_tests}
use Rattle.std.proofs.lemmas.List.{length-map, length-reverse, map-append, reverse-append}
use Rattle.std.proofs.lemmas.Slice.Eq.{bytes_eq-Decides}
use Rattle.mime_base.specs.Format.Stored.{is_in_literals, is_in_tree, reversed_ending, stored_text}
use Rattle.mime_base.specs.Format.SuffixTree.{fronts}
use Rattle.mime_base.specs.Matching.Folding.{compared, compared_byte, folded}
use Rattle.mime_base.specs.Matching.Matches.{rule_matches}
use Rattle.mime_base.specs.declared.database.rule.GlobRule.{GlobRule}
use Rattle.mime_base.proofs.KeptLemmas.PlainPatterns.{literal_class, tree_pattern}
use Rattle.mime_view.proofs.SuffixTreeLemmas.PathFronts.{among_fronts, is_among}
use Rattle.mime_view.proofs.HitsLemmas.PlainMatches.{ending-matches, literal-matches, starts_with-is}

-- what was folded stays as it is
folded-folded : (b : ℕ) → folded (folded b) ≡ folded b
folded-folded b = grind (arith, nat_tests)

-- folding a text that was folded, or was not, is folding it once
pub compared-compared : (cased : Bool) (text : List ℕ) → compared false (compared cased text) ≡ compared false text
compared-compared cased [] = refl
compared-compared true (b ∷ text) = ap (λ rest. folded b ∷ rest) (compared-compared true text)
compared-compared false (b ∷ text) = ap₂ ◌∷◌ (folded-folded b) (compared-compared false text)

-- a map from the back is the map's reverse
map-reverse : (f : ℕ → ℕ) (text : List ℕ) → map f (reverse text) ≡ reverse (map f text)
map-reverse f [] = refl
map-reverse f (b ∷ text) =
    ap (map f) (reverse-append (b ∷ []) text) ∙ map-append f (reverse text) (b ∷ [])
    ∙ ap (λ front. front ++ f b ∷ []) (map-reverse f text) ∙ sym (reverse-append (f b ∷ []) (map f text))

-- an ending of a key is one of the name that is folded as the key is
folded-ends : (key name ending : List ℕ) (cased : Bool) → compared false key ≡ compared false name
    → starts_with eqb (reverse key) (reverse (compared cased ending)) ≡ true
    → starts_with eqb (reverse (compared false name)) (reverse (compared false ending)) ≡ true
folded-ends key name ending cased alike ends =
    let front = reverse (compared cased ending) in
    let rest = drop (length front) (reverse key) in
    (starts_with-is (reverse (compared false name)) (reverse (compared false ending))).1 (compared false rest)
    (ap reverse (sym alike) ∙ sym (map-reverse (compared_byte false) key)
    ∙ ap (compared false) ((starts_with-is (reverse key) front).0 ends)
    ∙ map-append (compared_byte false) front rest
    ∙ ap (λ text. text ++ compared false rest) (map-reverse (compared_byte false) (compared cased ending)
    ∙ ap reverse (compared-compared cased ending)))

-- a rule that a search finds matches the name once all texts are folded
pub literal-near : (rule : GlobRule) (key name : List ℕ) → compared false key ≡ compared false name
    → (is_in_literals rule && bytes_eq (stored_text rule) key) ≡ true → (is_in_literals rule && rule_matches rule.pattern false name) ≡ true
literal-near rule key name alike found =
    let parts = and_parts (is_in_literals rule) (bytes_eq (stored_text rule) key) found in
    let is : stored_text rule ≡ key = (bytes_eq-Decides (stored_text rule) key).0 parts.1 in
    and_from _ _ parts.0
    (literal-matches rule.pattern false name (literal_class rule.pattern parts.0)
    ∙ (bytes_eq-Decides (compared false rule.pattern) (compared false name)).1
    (sym (compared-compared rule.cased rule.pattern) ∙ ap (compared false) is ∙ alike))

-- and so does one that a walk finds
pub ending-near : (rule : GlobRule) (key name : List ℕ) → compared false key ≡ compared false name
    → (is_in_tree rule && is_among (fronts (reverse key)) (reversed_ending rule)) ≡ true
    → (is_in_tree rule && rule_matches rule.pattern false name) ≡ true
ending-near rule key name alike found =
    let parts = and_parts (is_in_tree rule) (is_among (fronts (reverse key)) (reversed_ending rule)) found in
    let shape = tree_pattern rule parts.0 in
    let among : is_among (fronts (reverse key)) (reverse (compared rule.cased shape.0)) ≡ true =
    subst (λ pattern. is_among (fronts (reverse key)) (reverse (drop 1 (compared rule.cased pattern))) ≡ true) shape.1 parts.1 in
    and_from _ _ parts.0
    (ap (λ pattern. rule_matches pattern false name) shape.1
    ∙ ending-matches shape.0 false name shape.2
    ∙ folded-ends key name shape.0 rule.cased alike
    (sym (among_fronts (reverse (compared rule.cased shape.0)) (reverse key) (some shape.0 shape.3)) ∙ among))
  where
    some : (ending : List ℕ) → 0 < length ending → 0 < length (reverse (compared rule.cased ending))
    some ending more = omega (arith, length-reverse (compared rule.cased ending), length-map ending (compared_byte rule.cased))
