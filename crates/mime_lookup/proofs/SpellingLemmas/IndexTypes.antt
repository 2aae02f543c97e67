-- The types of a name by an index over the rules of a cache.
use Rattle.std.proofs.Common.{◌≡◌, ℕ, ◌==◌, Bool, true, false, cond, ◌≤◌, List, [], ◌∷◌, length, map, ap, arith, subst, ◌∙◌, bytes_eq}
use Rattle.std.specs.List.{All}
use Rattle.std.proofs.lemmas.List.{length-take}
use Rattle.std.proofs.lemmas.List.Elements.{All-filter, All-from_recursion, All-head, All-map, All-tail, recursion_from_All}
use Rattle.mime_base.specs.Database.{PlainDatabase, pairs_of}
use Rattle.mime_base.specs.Database.Subclass.{resolved}
use Rattle.mime_base.specs.Falling.{falling}
use Rattle.mime_base.specs.Kept.{candidate_rules, greatest, hits, kept_rules, rank_of_rule}
use Rattle.mime_base.specs.Matching.Matches.{rule_matches}
use Rattle.mime_base.specs.declared.database.rule.GlobRule.{GlobRule}
use Rattle.mime_base.proofs.KeptLemmas.{of_greatest-rank_of_rule}
use Rattle.mime_lookup.specs.Cached.{IsCacheText}
use Rattle.mime_lookup.specs.Choice.{candidates, kept}
use Rattle.mime_lookup.specs.NameTypes.{types_for}
use Rattle.mime_lookup.specs.ReadBack.{AreRulesReadBack, AreTypesOf}
use Rattle.mime_lookup.specs.Spelling.{SpellsGlobs}
use Rattle.mime_lookup.proofs.IndexLemmas.LentRules.{candidates-step, kept-step}
use Rattle.mime_lookup.proofs.OrderLemmas.Candidates.{kept_front}
use Rattle.mime_lookup.proofs.SpellingLemmas.RuleKinds.{HasText, rules_texts, targets_texts}
use Rattle.mime_lookup.proofs.SpellingLemmas.Types.{candidates_once, kept_once}
use Rattle.mime_names.specs.Index.{PlainIndex}
use Rattle.mime_view.proofs.HitsLemmas.GivenRules.{all-falling}
use Rattle.mime_view.proofs.HitsLemmas.WalkOrder.{hits-fit}
use Rattle.mime_view.specs.declared.name_hits.Which.{Which}
use Rattle.mime_view.specs.declared.name_hits.Which.TheVariants.{Candidates, Kept}

-- a text goes to a text by one alias step
resolved_text : (c : List ℕ) (pairs : List (List ℕ × List ℕ)) (kind : List ℕ) → All (λ pair. IsCacheText c pair.1) pairs
    → IsCacheText c kind
    → IsCacheText c (resolved pairs kind)
unfolding resolved
resolved_text c [] kind targets text = text
resolved_text c (pair ∷ pairs) kind targets text =
    by_test (bytes_eq pair.0 kind)
    (resolved_text c pairs kind (All-tail (λ (p : List ℕ × List ℕ). IsCacheText c p.1) pair pairs targets) text)
  where
    by_test : (t : Bool) → IsCacheText c (resolved pairs kind) → IsCacheText c (cond t pair.1 (resolved pairs kind))
    by_test true rest = All-head (λ (p : List ℕ × List ℕ). IsCacheText c p.1) pair pairs targets
    by_test false rest = rest

module _ (c name : List ℕ) (d : PlainDatabase) (spelled : SpellsGlobs c d) where
  -- the types of all rules that match
  hits_texts : All (HasText c) (hits d.rules name)
  hits_texts =
      All-filter (λ rule. rule_matches rule.pattern rule.cased name) (HasText c) d.rules
      (rules_texts c spelled.offsets.literals spelled.offsets.tree spelled.offsets.globs d.rules
      (record { fit = spelled.ranks; literals_stand = spelled.literals; tree_stands = spelled.tree; globs_stand = spelled.globs }))

  -- those of some of them, each after one alias step
  steps_texts : (rules : List GlobRule) → All (HasText c) rules
      → All (IsCacheText c) (map (λ (rule : GlobRule). resolved d.aliases rule.kind) rules)
  steps_texts rules texts =
      All-map (IsCacheText c) (λ (rule : GlobRule). resolved d.aliases rule.kind) rules
      (λ k rule within.
      resolved_text c d.aliases _ (targets_texts c spelled.offsets.aliases d.aliases spelled.aliases) (texts k rule within))

  -- the types of the kept rules
  kept_texts : All (HasText c) (kept_rules d.rules name)
  unfolding kept_rules
  kept_texts =
      subst (All (HasText c)) (of_greatest-rank_of_rule (hits d.rules name) (hits-fit d.rules name spelled.ranks))
      (All-filter (λ rule. rank_of_rule rule == greatest rank_of_rule (hits d.rules name)) (HasText c) (hits d.rules name) hits_texts)

  -- those of all rules that match, by falling rank
  pub candidates_texts : All (HasText c) (candidate_rules d.rules name)
  unfolding candidate_rules
  candidates_texts =
      All-from_recursion (HasText c) (falling rank_of_rule (hits d.rules name))
      (all-falling (HasText c) (hits d.rules name) (recursion_from_All (HasText c) (hits d.rules name) hits_texts))

  -- the types of a name are texts of the cache
  pub types_texts : (which : Which) → All (IsCacheText c) (types_for which d name)
  unfolding kept candidates
  types_texts Kept = steps_texts (kept_rules d.rules name) kept_texts
  types_texts Candidates = steps_texts (candidate_rules d.rules name) candidates_texts

-- the rules of an index over a cache, and what the index gives for a name
module _ (c name : List ℕ) (index : PlainIndex) (of_cache : AreRulesReadBack c index) where
  -- the database whose rules they are
  abbrev d : PlainDatabase
  d = of_cache.database

  -- a rule's type
  abbrev kind_of : GlobRule → List ℕ
  kind_of rule = rule.kind

  -- the types of the kept rules
  pub index-kept : map kind_of (kept_rules index.given name) ≡ types_for Kept d name
  index-kept =
      ap (λ (these : List GlobRule). map kind_of (kept_rules these name)) of_cache.are
      ∙ kept-step (pairs_of d) d.rules name of_cache.spelled.ranks

  -- the types of all rules that match
  pub index-candidates : map kind_of (candidate_rules index.given name) ≡ types_for Candidates d name
  index-candidates =
      ap (λ (these : List GlobRule). map kind_of (candidate_rules these name)) of_cache.are ∙ candidates-step (pairs_of d) d.rules name

  -- they are those of whatever the cache spells
  pub types_once : (which : Which) (b : PlainDatabase) → SpellsGlobs c b → types_for which d name ≡ types_for which b name
  types_once Kept b spelled = kept_once c name d b of_cache.spelled spelled
  types_once Candidates b spelled = candidates_once c name d b of_cache.spelled spelled

  -- the kept ones come first among all
  pub kept-within : length (types_for Kept d name) ≤ length (types_for Candidates d name)
  kept-within =
      omega (
        arith,
        length-take (length (types_for Kept d name)) (types_for Candidates d name),
        ap (λ (kinds : List (List ℕ)). length kinds) (kept_front d name of_cache.spelled.ranks).first,
      )

  -- the types that are asked for, and how many of these are kept
  pub types_given : (which : Which) (given kept_ones : List (List ℕ)) (count : ℕ) → given ≡ types_for which d name
      → kept_ones ≡ map kind_of (kept_rules index.given name) → count ≡ length kept_ones → (b : PlainDatabase) → SpellsGlobs c b
      → AreTypesOf which b name (record { kinds = given; kept = count })
  types_given which given kept_ones count are kept_are counted b spelled = record {
    types = are ∙ types_once which b spelled;
    count = counted ∙ ap (λ (kinds : List (List ℕ)). length kinds) (kept_are ∙ index-kept ∙ types_once Kept b spelled);
  }
