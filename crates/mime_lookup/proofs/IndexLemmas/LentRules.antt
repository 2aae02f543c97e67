-- Rules whose types went one alias step before they are asked: they are kept and ranked as the rules themselves.
use Rattle.std.proofs.Common.{◌≡◌, ℕ, Bool, true, false, cond, List, [], ◌∷◌, length, map, refl, sym, ap, ◌∙◌}
use Rattle.std.specs.List.{All, filter}
use Rattle.std.proofs.lemmas.List.{length-map}
use Rattle.std.proofs.lemmas.List.Elements.{All-filter, All-map}
use Rattle.std.proofs.lemmas.Simd.{map-map}
use Rattle.mime_base.specs.Database.Subclass.{Pairs, resolved}
use Rattle.mime_base.specs.Falling.{falling}
use Rattle.mime_base.specs.Kept.{FitsRank, candidate_rules, hits, kept_rules, of_greatest, rank_of_rule}
use Rattle.mime_base.specs.Matching.Matches.{rule_matches}
use Rattle.mime_base.specs.declared.database.rule.GlobRule.{GlobRule}
use Rattle.mime_base.proofs.FallingLemmas.Order.{falling-map}
use Rattle.mime_base.proofs.KeptLemmas.{of_greatest-rank_of_rule}
use Rattle.mime_base.proofs.KeptLemmas.Greatest.{of_greatest-map}
use Rattle.mime_lookup.specs.Choice.{candidates, kept}
use Rattle.mime_lookup.specs.Indexed.{unaliased_rule}

-- filtering values is filtering by value
pub filter-map : {X Y : Type 0} (value : X → Y) (p : Y → Bool) (xs : List X) →
    filter p (map value xs) ≡ map value (filter (λ x. p (value x)) xs)
filter-map value p [] = refl
filter-map {X} {Y} value p (x ∷ xs) = by_cases (p (value x)) (filter-map value p xs)
  where
    by_cases : (b : Bool) → filter p (map value xs) ≡ map value (filter (λ y. p (value y)) xs) →
        cond b (value x ∷ filter p (map value xs)) (filter p (map value xs))
        ≡ map value (cond b (x ∷ filter (λ y. p (value y)) xs) (filter (λ y. p (value y)) xs))
    by_cases true rest = ap (λ ys. value x ∷ ys) rest
    by_cases false rest = rest

module _ (pairs : Pairs) (rules : List GlobRule) (name : List ℕ) where
  -- a rule after one alias step of its type
  abbrev step : GlobRule → GlobRule
  step = unaliased_rule pairs.aliases

  -- a rule's type
  abbrev kind_of : GlobRule → List ℕ
  kind_of rule = rule.kind

  -- those that match are the same
  hits-step : hits (map step rules) name ≡ map step (hits rules name)
  hits-step = filter-map step (λ rule. rule_matches rule.pattern rule.cased name) rules

  -- the kept ones
  pub kept-step : All FitsRank rules → map kind_of (kept_rules (map step rules) name) ≡ kept pairs rules name
  unfolding kept_rules kept
  kept-step limits =
      let matches = λ (rule : GlobRule). rule_matches rule.pattern rule.cased name in
      let found = hits rules name in
      ap (map kind_of) (sym (of_greatest-rank_of_rule (hits (map step rules) name) (All-filter matches FitsRank (map step rules) (All-map FitsRank step rules limits)))
      ∙ ap (of_greatest rank_of_rule) hits-step
      ∙ of_greatest-map rank_of_rule step found)
      ∙ map-map kind_of step (of_greatest rank_of_rule found)
      ∙ ap (map (λ (rule : GlobRule). resolved pairs.aliases rule.kind)) (of_greatest-rank_of_rule found (All-filter matches FitsRank rules limits))

  -- as many are kept
  pub kept-count : All FitsRank rules → length (kept_rules (map step rules) name) ≡ length (kept pairs rules name)
  kept-count limits = sym (length-map (kept_rules (map step rules) name) kind_of) ∙ ap length (kept-step limits)

  -- and all by falling rank
  pub candidates-step : map kind_of (candidate_rules (map step rules) name) ≡ candidates pairs rules name
  unfolding candidate_rules candidates
  candidates-step =
      let found = hits rules name in
      ap (map kind_of) (ap (falling rank_of_rule) hits-step ∙ sym (falling-map step rank_of_rule found))
      ∙ map-map kind_of step (falling rank_of_rule found)
