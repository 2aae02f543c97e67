-- What each search, walk and list offers, rank by rank: the rules of its place among those that match.
use Rattle.std.proofs.Common.{◌≡◌, ℕ, Bool, true, false, ◌&&◌, ◌==◌, List, [], ◌∷◌, length, reverse, bytes_eq}
use Rattle.std.proofs.Common.{refl, sym, ap, ◌∙◌, arith}
use Rattle.std.specs.List.{All, filter}
use Rattle.std.proofs.lemmas.Bool.{and_right, eqb-true}
use Rattle.std.proofs.lemmas.List.Elements.{All-filter, All-head, All-nil, All-weaker, filter_passes}
use Rattle.mime_base.specs.Format.Stored.{is_in_globs, is_in_literals, is_in_tree, reversed_ending, stored_text, tree_rules}
use Rattle.mime_base.specs.Format.SuffixTree.{fronts}
use Rattle.mime_base.specs.Kept.{FitsRank, hits, rank_of_rule}
use Rattle.mime_base.specs.Matching.Folding.{compared}
use Rattle.mime_base.specs.Matching.Matches.{rule_matches}
use Rattle.mime_base.specs.declared.database.rule.GlobRule.{GlobRule}
use Rattle.mime_view.specs.Hits.{takes_rule, glob_list_hits, literal_hits, tree_hits}
use Rattle.mime_view.specs.declared.hits.Case.{Case}
use Rattle.mime_view.proofs.HitsLemmas.FilterSteps.{filters-agree, filters-swap}
use Rattle.mime_view.proofs.SuffixTreeLemmas.PathFronts.{Lengthens-fronts, by_keys-level, filter-by_keys, is_among}
use Rattle.mime_view.proofs.HitsLemmas.RulePlaces.{ending-found, length-reversed_ending, literal-found}
use Rattle.mime_view.proofs.HitsLemmas.SameRanks.{same_rank}

-- the rules of one rank
abbrev pub of_rank : ℕ → List GlobRule → List GlobRule
of_rank n rules = filter (λ rule. rank_of_rule rule == n) rules

-- a rule has this rank, and fits it
abbrev pub Ranked : ℕ → GlobRule → Type 0
Ranked n rule = FitsRank rule × (rank_of_rule rule ≡ n)

-- so has each of the rules of the rank
pub of_rank-ranked : (n : ℕ) (rules : List GlobRule) → All FitsRank rules → All (Ranked n) (of_rank n rules)
of_rank-ranked n rules fits k d within = (
  All-filter (λ rule. rank_of_rule rule == n) FitsRank rules fits k d within,
  eqb-true _ _ (filter_passes (λ rule. rank_of_rule rule == n) rules k d within),
)

-- endings of one rank have one length
ranked-level : (n : ℕ) (rules : List GlobRule) → All (Ranked n) rules → (k : ℕ) × All (λ rule. length (reversed_ending rule) ≡ k) rules
ranked-level n [] ranked = (0, All-nil (λ rule. length (reversed_ending rule) ≡ 0))
ranked-level n (first ∷ rest) ranked =
    let head = All-head (Ranked n) first rest ranked in
    let same = λ (rule : GlobRule) (is : Ranked n rule). (let long = (same_rank rule first is.0 head.0 (is.1 ∙ sym head.1)).1 in
    let level : length (reversed_ending rule) ≡ length (reversed_ending first) =
    omega (arith, length-reversed_ending rule, length-reversed_ending first) in level) in
    (length (reversed_ending first), All-weaker (Ranked n) _ same (first ∷ rest) ranked)

-- the key of a search or a walk is the name as each rule that it takes compares it
abbrev pub Serves : Case → List ℕ → List ℕ → Type 0
Serves case name key = (cased : Bool) → takes_rule case cased ≡ true → compared cased name ≡ key

-- a rule that is taken from its place is found where it matches: by its key first, or last

-- by its key first
found_first : (place found taken ranked hit : Bool) → (place ≡ true → taken ≡ true → found ≡ hit)
    → (place && found && taken && ranked) ≡ (hit && ranked && (place && taken))
found_first false found taken ranked hit same = sym (and_right (hit && ranked) false refl)
found_first true found false ranked hit same =
    ap (λ b. b && ranked) (and_right found false refl) ∙ sym (and_right (hit && ranked) false refl)
found_first true found true ranked hit same = ap (λ b. b && true && ranked) (same refl refl) ∙ by_cases hit ranked
  where
    by_cases : (a b : Bool) → (a && true && b) ≡ (a && b && true)
    by_cases true true = refl
    by_cases true false = refl
    by_cases false b = refl

-- by its key last
found_last : (place found taken ranked hit : Bool) → (place ≡ true → taken ≡ true → found ≡ hit)
    → (place && taken && ranked && found) ≡ (hit && ranked && (place && taken))
found_last false found taken ranked hit same = sym (and_right (hit && ranked) false refl)
found_last true found false ranked hit same = sym (and_right (hit && ranked) false refl)
found_last true found true ranked hit same = ap (λ b. ranked && b) (same refl refl) ∙ by_cases hit ranked
  where
    by_cases : (a b : Bool) → (b && a) ≡ (a && b && true)
    by_cases true true = refl
    by_cases true false = refl
    by_cases false true = refl
    by_cases false false = refl

module _ (n : ℕ) (rules : List GlobRule) (name : List ℕ) where
  -- whether a rule has the rank
  abbrev is_ranked : GlobRule → Bool
  is_ranked rule = rank_of_rule rule == n

  -- whether a rule matches the name
  abbrev is_hit : GlobRule → Bool
  is_hit rule = rule_matches rule.pattern rule.cased name

  -- what the glob list offers
  pub glob_part : of_rank n (glob_list_hits name rules) ≡ filter is_in_globs (of_rank n (hits rules name))
  glob_part = ap (of_rank n) (filters-swap is_hit is_in_globs rules) ∙ filters-swap is_ranked is_in_globs (hits rules name)

  module _ (case : Case) (key : List ℕ) (serves : Serves case name key) where
    abbrev is_taken : GlobRule → Bool
    is_taken rule = takes_rule case rule.cased

    -- what a search of the literal list offers
    pub literal_part : of_rank n (literal_hits case key rules)
        ≡ filter (λ rule. is_in_literals rule && takes_rule case rule.cased) (of_rank n (hits rules name))
    literal_part =
        let found = λ (rule : GlobRule) (is : is_in_literals rule ≡ true) (taken : is_taken rule ≡ true).
        ap (bytes_eq (stored_text rule)) (sym (serves rule.cased taken)) ∙ literal-found rule name is in
        filters-agree is_ranked is_taken (λ rule. bytes_eq (stored_text rule) key) is_in_literals
        (λ rule. is_in_literals rule && is_taken rule) is_ranked is_hit
        (λ rule. found_first (is_in_literals rule) _ (is_taken rule) (is_ranked rule) (is_hit rule) (found rule)) rules

    -- what a walk of the tree offers
    pub tree_part : All FitsRank rules → of_rank n (tree_hits case key rules)
        ≡ filter (λ rule. is_in_tree rule && takes_rule case rule.cased) (of_rank n (hits rules name))
    tree_part fits =
        let path = reverse key in
        let taken = filter is_taken (tree_rules rules) in
        let taken_fit = All-filter is_taken FitsRank (tree_rules rules) (All-filter is_in_tree FitsRank rules fits) in
        let level = ranked-level n (of_rank n taken) (of_rank-ranked n taken taken_fit) in
        let found = λ (rule : GlobRule) (is : is_in_tree rule ≡ true) (taken : is_taken rule ≡ true).
        ap (λ text. is_among (fronts (reverse text)) (reversed_ending rule)) (sym (serves rule.cased taken)) ∙ ending-found rule name is in
        ap (of_rank n) (filter-by_keys reversed_ending is_taken (fronts path) (tree_rules rules))
        ∙ filter-by_keys reversed_ending is_ranked (fronts path) taken
        ∙ by_keys-level reversed_ending 1 level.0 (fronts path) (Lengthens-fronts path) (of_rank n taken) level.1
        ∙ filters-agree (λ rule. is_among (fronts path) (reversed_ending rule)) is_ranked is_taken is_in_tree
        (λ rule. is_in_tree rule && is_taken rule) is_ranked is_hit
        (λ rule. found_last (is_in_tree rule) _ (is_taken rule) (is_ranked rule) (is_hit rule) (found rule)) rules
