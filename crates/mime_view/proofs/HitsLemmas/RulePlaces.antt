-- The rules of the literal list and of the suffix tree, each by its key: where they match a name.
use Rattle.std.proofs.Common.{◌≡◌, ℕ, ◌<◌, ◌-◌, true, List, length, drop, reverse, bytes_eq, sym, subst, ◌∙◌, arith}
use Rattle.std.proofs.lemmas.List.{length-drop, length-map, length-reverse}
use Rattle.mime_base.specs.Format.Stored.{is_in_literals, is_in_tree, reversed_ending, stored_text}
use Rattle.mime_base.specs.Format.SuffixTree.{fronts}
use Rattle.mime_base.specs.Matching.Folding.{compared, compared_byte}
use Rattle.mime_base.specs.Matching.Matches.{rule_matches}
use Rattle.mime_base.specs.declared.database.rule.GlobRule.{GlobRule}
use Rattle.mime_base.proofs.KeptLemmas.PlainPatterns.{literal_class, tree_pattern}
use Rattle.mime_view.proofs.SuffixTreeLemmas.PathFronts.{among_fronts, is_among}
use Rattle.mime_view.proofs.HitsLemmas.PlainMatches.{ending-matches, literal-matches}

-- a literal rule matches the name that is its text, both compared
pub literal-found : (rule : GlobRule) (name : List ℕ) → is_in_literals rule ≡ true
    → bytes_eq (stored_text rule) (compared rule.cased name) ≡ rule_matches rule.pattern rule.cased name
literal-found rule name is = sym (literal-matches rule.pattern rule.cased name (literal_class rule.pattern is))

-- a rule of the tree matches the names of which its ending is one
pub ending-found : (rule : GlobRule) (name : List ℕ) → is_in_tree rule ≡ true
    → is_among (fronts (reverse (compared rule.cased name))) (reversed_ending rule) ≡ rule_matches rule.pattern rule.cased name
ending-found rule name is =
    let shape = tree_pattern rule is in
    subst (λ pattern. is_among (fronts (reverse (compared rule.cased name))) (reverse (drop 1 (compared rule.cased pattern)))
    ≡ rule_matches pattern rule.cased name) (sym shape.1)
    (among_fronts (reverse (compared rule.cased shape.0)) (reverse (compared rule.cased name)) (some shape.0 shape.3)
    ∙ sym (ending-matches shape.0 rule.cased name shape.2))
  where
    some : (ending : List ℕ) → 0 < length ending → 0 < length (reverse (compared rule.cased ending))
    some ending more = omega (arith, length-reverse (compared rule.cased ending), length-map ending (compared_byte rule.cased))

-- its ending is one byte shorter than its pattern
pub length-reversed_ending : (rule : GlobRule) → length (reversed_ending rule) ≡ length rule.pattern - 1
length-reversed_ending rule =
    omega (
      arith,
      length-reverse (drop 1 (stored_text rule)),
      length-drop 1 (stored_text rule),
      length-map rule.pattern (compared_byte rule.cased),
    )
