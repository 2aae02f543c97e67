-- No more rules match a name than are near it, so no more are kept.
use Rattle.std.proofs.Common.{◌≡◌, ℕ, ◌≤◌, Bool, true, false, not, ◌&&◌, ◌||◌, ◌==◌, cond, List, length, refl, ◌∙◌, arith}
use Rattle.std.specs.List.{filter}
use Rattle.std.proofs.lemmas.Bool.{and_from, and_parts}
use Rattle.std.proofs.lemmas.List.Filters.{length-filter_both}
use Rattle.mime_base.specs.Format.Stored.{is_in_globs, is_in_literals, is_in_tree}
use Rattle.mime_base.specs.Kept.{any_cased, candidate_rules, cased_if_any, earliness, greatest, heaviest, hits, kept_rules, longest}
use Rattle.mime_base.specs.Kept.Classes.{class_of}
use Rattle.mime_base.specs.Kept.{of_first_class, of_greatest, preferred, rank_of_rule}
use Rattle.mime_base.specs.Matching.Folding.{compared}
use Rattle.mime_base.specs.Matching.Matches.{rule_matches}
use Rattle.mime_base.specs.declared.database.rule.GlobRule.{GlobRule}
use Rattle.mime_view.specs.Hits.{CandidatesAreNear, KeptAreNear, near}
use Rattle.mime_view.proofs.HitsLemmas.FilterCounts.{length-filter_weaker}
use Rattle.mime_view.proofs.HitsLemmas.NearRules.{compared-compared, ending-near, literal-near}
use Rattle.mime_view.proofs.HitsLemmas.SortedOffers.{length-falling}
use Rattle.mime_view.proofs.HitsLemmas.RulePlaces.{ending-found, literal-found}

-- a filter keeps no more than there are
filter-shorter : {X : Type 0} (p : X → Bool) (xs : List X) → length (filter p xs) ≤ length xs
filter-shorter p xs = omega (arith, length-filter_both p (λ x. not (p x)) (λ x. refl) xs)

-- so does a choice of the greatest
pub greatest-shorter : {X : Type 0} (f : X → ℕ) (xs : List X) → length (of_greatest f xs) ≤ length xs
greatest-shorter f xs = filter-shorter (λ x. f x == greatest f xs) xs

-- and one by case
cased-shorter : (rules : List GlobRule) → length (cased_if_any rules) ≤ length rules
cased-shorter rules = by_cases (any_cased rules)
  where
    by_cases : (any : Bool) → length (cond any (filter (λ rule. rule.cased) rules) rules) ≤ length rules
    by_cases true = filter-shorter (λ rule. rule.cased) rules
    by_cases false = omega arith

-- no more are kept than match
kept-shorter : (rules : List GlobRule) (name : List ℕ) → length (kept_rules rules name) ≤ length (hits rules name)
unfolding kept_rules preferred
kept-shorter rules name =
    let first = of_first_class (hits rules name) in
    omega (
      arith,
      cased-shorter (longest (heaviest first)),
      greatest-shorter (λ rule. length rule.pattern) (heaviest first),
      greatest-shorter (λ rule. rule.weight) first,
      greatest-shorter (λ rule. earliness (class_of rule.pattern)) (hits rules name),
    )

-- a rule that matches stands in the glob list, or matches once all texts are folded
match-near : (rule : GlobRule) (name : List ℕ) → rule_matches rule.pattern rule.cased name ≡ true
    → (is_in_globs rule || rule_matches rule.pattern false name) ≡ true
match-near rule name matched =
    by_cases (is_in_literals rule) (is_in_tree rule)
    (λ is. (and_parts _ _ (literal-near rule key name alike (and_from _ _ is (literal-found rule name is ∙ matched)))).1)
    (λ is. (and_parts _ _ (ending-near rule key name alike (and_from _ _ is (ending-found rule name is ∙ matched)))).1)
  where
    key : List ℕ
    key = compared rule.cased name

    alike : compared false key ≡ compared false name
    alike = compared-compared rule.cased name

    by_cases : (literal suffix : Bool) → (literal ≡ true → rule_matches rule.pattern false name ≡ true)
        → (suffix ≡ true → rule_matches rule.pattern false name ≡ true)
        → (not literal && not suffix || rule_matches rule.pattern false name) ≡ true
    by_cases true suffix by_literal by_ending = by_literal refl
    by_cases false true by_literal by_ending = by_ending refl
    by_cases false false by_literal by_ending = refl

-- rules that match are near the name
hits-near : (name : List ℕ) (rules : List GlobRule) → length (hits rules name) ≤ near name rules
hits-near name rules =
    length-filter_weaker (λ rule. rule_matches rule.pattern rule.cased name)
    (λ rule. is_in_globs rule || rule_matches rule.pattern false name) (λ rule. match-near rule name) rules

-- the law of kept rules
pub kept_near : KeptAreNear
kept_near name rules = omega (arith, kept-shorter rules name, hits-near name rules)

-- the law of candidates
pub candidates_near : CandidatesAreNear
unfolding candidate_rules
candidates_near name rules = omega (arith, length-falling rank_of_rule (hits rules name), hits-near name rules)
