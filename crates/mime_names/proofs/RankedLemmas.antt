-- The rules that match a name, by falling rank: what they have and what they give, and how many are kept.
use Rattle.std.proofs.Common.{◌≡◌, ℕ, List, length, map, sym, ap, ◌∙◌}
use Rattle.std.specs.List.{All}
use Rattle.std.proofs.lemmas.List.{length-map}
use Rattle.std.proofs.lemmas.List.Elements.{All-filter, All-map, All-weaker}
use Rattle.std.proofs.lemmas.Simd.{map-map}
use denote.Bor.{Bor}
use Rattle.mime_base.specs.Falling.{falling}
use Rattle.mime_base.specs.Kept.{FitsRank, candidate_rules, hits, kept_rules, of_greatest, rank_of_rule}
use Rattle.mime_base.specs.Matching.Matches.{rule_matches}
use Rattle.mime_base.specs.declared.database.rule.GlobRule.{GlobRule}
use Rattle.mime_base.proofs.FallingLemmas.Order.{falling-map}
use Rattle.mime_base.proofs.KeptLemmas.{of_greatest-rank_of_rule}
use Rattle.mime_base.proofs.KeptLemmas.Greatest.{of_greatest-map}
use Rattle.mime_names.specs.Index.{rules_of_index}
use Rattle.mime_names.specs.Rules.{IsIndexedRule, every, hits_of, is_match, own_parts, own_plain, parts_of, pattern_of, plain}
use Rattle.mime_names.specs.declared.indexed_rule.IndexedRule.{IndexedRule}
use Rattle.mime_names.proofs.FirstLemmas.{falling-each, greatest-each}
use Rattle.mime_names.proofs.KeptLemmas.{filter-map}

module _ (patterns : List ℕ) (rules : List IndexedRule) (name : List ℕ) (own : All (IsIndexedRule patterns) rules) where
  -- the rules that match
  abbrev found_rules : List IndexedRule
  found_rules = hits_of patterns (every patterns) rules name

  -- a rule's rank
  abbrev rank : IndexedRule → ℕ
  rank rule = rank_of_rule (plain patterns rule)

  -- they have it
  ranks : All (λ (rule : IndexedRule). rule.rank ≡ rank rule) found_rules
  ranks =
      All-filter (is_match patterns name) (λ (rule : IndexedRule). rule.rank ≡ rank rule) rules
      (All-weaker (IsIndexedRule patterns) (λ (rule : IndexedRule). rule.rank ≡ rank rule) (λ rule is. is.rank) rules own)

  -- a rule with some type
  abbrev with_kind : (IndexedRule → List ℕ) → IndexedRule → GlobRule
  with_kind kind rule = record { weight = rule.weight; kind = kind rule; pattern = pattern_of patterns rule; cased = rule.cased }

  -- with any types they are those that match
  hits-by : (kind : IndexedRule → List ℕ) → hits (map (with_kind kind) rules) name ≡ map (with_kind kind) found_rules
  hits-by kind = filter-map (with_kind kind) (λ rule. rule_matches rule.pattern rule.cased name) rules

  -- and each has its room in a rank
  fits-by : (kind : IndexedRule → List ℕ) → All FitsRank (hits (map (with_kind kind) rules) name)
  fits-by kind =
      All-filter (λ rule. rule_matches rule.pattern rule.cased name) FitsRank (map (with_kind kind) rules)
      (All-map FitsRank (with_kind kind) rules
      (All-weaker (IsIndexedRule patterns) (λ (rule : IndexedRule). FitsRank (plain patterns rule)) (λ rule is. is.fits) rules own))

  -- with any types they are all candidates
  candidates-by : (kind : IndexedRule → List ℕ) →
      map (with_kind kind) (falling rank found_rules) ≡ candidate_rules (map (with_kind kind) rules) name
  unfolding candidate_rules
  candidates-by kind =
      falling-map (with_kind kind) rank_of_rule found_rules
      ∙ ap (falling rank_of_rule) (sym (hits-by kind))

  module _ (found : List (Bor IndexedRule)) (are : map (λ (rule : Bor IndexedRule). rule.now) found ≡ found_rules) where
    -- a rule that is lent
    abbrev value : Bor IndexedRule → IndexedRule
    value rule = rule.now

    -- its rank
    abbrev lent_rank : Bor IndexedRule → ℕ
    lent_rank rule = rule.now.rank

    module _ (sorted : List (Bor IndexedRule)) (falls : sorted ≡ falling lent_rank found) where
      -- they come by falling rank
      sorted-rules : map value sorted ≡ falling rank found_rules
      sorted-rules =
          ap (map value) falls ∙ falling-map value (λ (rule : IndexedRule). rule.rank) found ∙ ap (falling (λ (rule : IndexedRule). rule.rank)) are
          ∙ falling-each (λ (rule : IndexedRule). rule.rank) rank found_rules ranks

      -- something of each
      sorted-by : {Y : Type 0} (some : GlobRule → Y) (kind : IndexedRule → List ℕ) →
          map (λ (rule : Bor IndexedRule). some (with_kind kind rule.now)) sorted
          ≡ map some (candidate_rules (map (with_kind kind) rules) name)
      sorted-by some kind =
          sym (map-map (λ (rule : IndexedRule). some (with_kind kind rule)) value sorted)
          ∙ ap (map (λ (rule : IndexedRule). some (with_kind kind rule))) sorted-rules
          ∙ sym (map-map some (with_kind kind) (falling rank found_rules))
          ∙ ap (map some) (candidates-by kind)

      -- what they have
      pub own-sorted : map own_parts sorted ≡ map parts_of (candidate_rules (map (own_plain patterns) rules) name)
      own-sorted = sorted-by parts_of (λ (rule : IndexedRule). rule.own_kind.now)

      -- what they give
      pub given-sorted : map (λ (rule : Bor IndexedRule). rule.now.kind.now) sorted
          ≡ map (λ (rule : GlobRule). rule.kind) (candidate_rules (rules_of_index patterns rules) name)
      given-sorted = sorted-by (λ (rule : GlobRule). rule.kind) (λ (rule : IndexedRule). rule.kind.now)

    -- those of the greatest rank are as many as are kept, with any types
    kept-by : (kind : IndexedRule → List ℕ) → length (of_greatest lent_rank found) ≡ length (kept_rules (map (with_kind kind) rules) name)
    unfolding kept_rules
    kept-by kind =
        sym (length-map (of_greatest lent_rank found) value)
        ∙ ap length (sym (of_greatest-map (λ (rule : IndexedRule). rule.rank) value found)
        ∙ ap (of_greatest (λ (rule : IndexedRule). rule.rank)) are
        ∙ greatest-each (λ (rule : IndexedRule). rule.rank) rank found_rules ranks)
        ∙ sym (length-map (of_greatest rank found_rules) (with_kind kind))
        ∙ ap length (sym (of_greatest-map rank_of_rule (with_kind kind) found_rules)
        ∙ ap (of_greatest rank_of_rule) (sym (hits-by kind))
        ∙ of_greatest-rank_of_rule (hits (map (with_kind kind) rules) name) (fits-by kind))

    -- with those that they give
    pub kept-given : length (of_greatest lent_rank found) ≡ length (kept_rules (rules_of_index patterns rules) name)
    kept-given = kept-by (λ (rule : IndexedRule). rule.kind.now)

    -- with their own
    pub kept-own : length (of_greatest lent_rank found) ≡ length (kept_rules (map (own_plain patterns) rules) name)
    kept-own = kept-by (λ (rule : IndexedRule). rule.own_kind.now)
