-- How many records a walk over the lists takes: what the rules near the name allow, and never more than the lists hold.
use Rattle.std.proofs.Common.{◌≡◌, ℕ, ◌+◌, ◌*◌, ◌≤◌, Bool, true, false, not, ◌&&◌, ◌||◌, List, length}
use Rattle.std.proofs.Common.{reverse, bytes_eq, refl, sym, ap, arith, ◌==◌, true≢false, ⊎_elim, Result}
use Rattle.std.specs.List.{filter}
use Rattle.std.proofs.lemmas.Bool.{or_right}
use Rattle.std.proofs.lemmas.List.{length-map}
use Rattle.mime_base.specs.Format.Sorted.{with_key}
use Rattle.mime_base.specs.Format.Stored.{glob_rules, is_in_globs, is_in_literals, is_in_tree, is_literal_class, is_suffix_class}
use Rattle.mime_base.specs.Format.Stored.{literal_rules, reversed_ending, stored_text, tree_rules}
use Rattle.mime_base.specs.Format.SuffixTree.{fronts, tree_size}
use Rattle.mime_base.specs.Kept.Classes.{class_of}
use Rattle.mime_base.specs.Matching.Folding.{compared, compared_byte}
use Rattle.mime_base.specs.Matching.Matches.{rule_matches}
use Rattle.mime_base.specs.declared.database.rule.GlobRule.{GlobRule}
use Rattle.mime_base.specs.declared.kept.class.Class.{Class}
use Rattle.mime_base.specs.declared.kept.class.Class.TheVariants.{Full, Literal, Suffix}
use Rattle.mime_view.specs.Hits.{ending_rules, hit_visits, near}
use Rattle.mime_view.specs.NameHits.{FindsHits, GivesHits}
use Rattle.mime_view.specs.declared.fault.CacheFault.{CacheFault}
use Rattle.mime_view.specs.declared.spending.Spending.{Spending}
use Rattle.mime_view.proofs.HitsLemmas.FilterCounts.{length-filter_or, length-filter_weaker}
use Rattle.mime_view.proofs.HitsLemmas.FilterSteps.{filter-filter}
use Rattle.mime_view.proofs.SuffixTreeLemmas.PathFronts.{Lengthens-fronts, is_among, length-by_keys}
use Rattle.mime_view.proofs.HitsLemmas.NearRules.{compared-compared, ending-near, literal-near}

-- a rule stands in one place
literal_or_tree : (class : Class) (longer : Bool) → is_literal_class class ≡ true → (is_suffix_class class && longer) ≡ false
literal_or_tree Literal longer is = refl
literal_or_tree Suffix longer is = absurd (true≢false (sym is))
literal_or_tree Full longer is = absurd (true≢false (sym is))

-- a rule that stands in the literal list, in the suffix tree or in neither, and matches or not, is near in one way

-- a hit of the literal list is none of the tree
not_both : (literal suffix hit : Bool) → (literal ≡ true → suffix ≡ false) → (literal && hit) ≡ true → (suffix && hit) ≡ false
not_both true true hit one is = absurd (true≢false (one refl))
not_both true false hit one is = refl
not_both false suffix hit one is = absurd (true≢false (sym is))

-- a hit of either is no rule of the glob list
not_general : (literal suffix hit : Bool) → (literal && hit || suffix && hit) ≡ true → (not literal && not suffix) ≡ false
not_general true suffix hit is = refl
not_general false true hit is = refl
not_general false false hit is = absurd (true≢false (sym is))

-- a hit of either, and each rule of the glob list, is near
any_near : (literal suffix hit : Bool) → (literal && hit || suffix && hit || not literal && not suffix) ≡ true
    → (not literal && not suffix || hit) ≡ true
any_near literal suffix true is = or_right _ _ refl
any_near true true false is = absurd (true≢false (sym is))
any_near true false false is = absurd (true≢false (sym is))
any_near false true false is = absurd (true≢false (sym is))
any_near false false false is = refl

module _ (rules : List GlobRule) (name : List ℕ) where
  -- whether it is a literal rule near the name
  abbrev near_literal : GlobRule → Bool
  near_literal rule = is_in_literals rule && rule_matches rule.pattern false name

  -- whether it is a rule of the tree near the name
  abbrev near_ending : GlobRule → Bool
  near_ending rule = is_in_tree rule && rule_matches rule.pattern false name

  -- the literal rules of a key are near the name
  literals-near : (key : List ℕ) → compared false key ≡ compared false name
      → length (with_key stored_text key (literal_rules rules)) ≤ length (filter near_literal rules)
  literals-near key alike =
      let one = ap length (filter-filter (λ rule. bytes_eq (stored_text rule) key) is_in_literals rules) in
      let fewer = length-filter_weaker (λ rule. is_in_literals rule && bytes_eq (stored_text rule) key) near_literal
      (λ rule. literal-near rule key name alike) rules in
      omega arith

  -- the rules that end a key are near the name
  endings-near : (key : List ℕ) → compared false key ≡ compared false name
      → length (ending_rules key rules) ≤ length (filter near_ending rules)
  endings-near key alike =
      let each = length-by_keys reversed_ending 1 (fronts (reverse key)) (Lengthens-fronts (reverse key)) (tree_rules rules) in
      let one = ap length (filter-filter (λ rule. is_among (fronts (reverse key)) (reversed_ending rule)) is_in_tree rules) in
      let fewer = length-filter_weaker (λ rule. is_in_tree rule && is_among (fronts (reverse key)) (reversed_ending rule)) near_ending
      (λ rule. ending-near rule key name alike) rules in
      omega arith

  -- each rule is near in one way
  near-parts : length (filter near_literal rules) + length (filter near_ending rules) + length (glob_rules rules) ≤ near name rules
  near-parts =
      let two = length-filter_or near_literal near_ending (λ rule. not_both (is_in_literals rule) (is_in_tree rule)
      (rule_matches rule.pattern false name) (literal_or_tree (class_of rule.pattern) (not (length rule.pattern == 1)))) rules in
      let three = length-filter_or (λ rule. near_literal rule || near_ending rule) is_in_globs
      (λ rule. not_general (is_in_literals rule) (is_in_tree rule) (rule_matches rule.pattern false name)) rules in
      let fewer = length-filter_weaker (λ rule. near_literal rule || near_ending rule || is_in_globs rule)
      (λ rule. is_in_globs rule || rule_matches rule.pattern false name)
      (λ rule. any_near (is_in_literals rule) (is_in_tree rule) (rule_matches rule.pattern false name)) rules in
      omega arith

  -- the rules near the name are visited twice at most, and one record more in each list and on each level of the tree
  pub visits_near : hit_visits name rules ≤ 2 * near name rules + 2 * length name + 2
  visits_near =
      let same = compared-compared false name in
      omega (
        arith,
        near-parts,
        literals-near name refl,
        literals-near (compared false name) same,
        endings-near name refl,
        endings-near (compared false name) same,
        length-map name (compared_byte false),
      )

  -- each record is visited twice at most
  pub visits_within : hit_visits name rules ≤ 2 * length (literal_rules rules) + 2 * tree_size rules + length (glob_rules rules)
  visits_within = omega arith

  -- so what is found for that many visits is given for the records of the lists, or for those near the name
  pub gives_hits : {X : Type 0} (Answer : List ℕ → List GlobRule → X → Type 0) (old new : Spending) (result : Result X CacheFault) →
      FindsHits Answer name rules old new result → GivesHits Answer name rules old.budget new.budget result
  gives_hits Answer old new result found = record {
    answer = found.answer;
    need = λ fits enough. found.need fits
        (⊎_elim (λ of_lists. omega (arith, visits_within, of_lists)) (λ of_near. omega (arith, visits_near, of_near)) enough);
    within = omega (arith, found.most, visits_within);
    nearly = omega (arith, found.most, visits_near);
  }
