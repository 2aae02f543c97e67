-- What the lists of a cache offer for a name: of all databases that it spells the rules are stored as one.
use Rattle.std.proofs.Common.{◌≡◌, ℕ, false, List, map, reverse, sym, ap, ◌∙◌, bytes_eq}
use Rattle.std.specs.List.{All, filter}
use Rattle.std.proofs.lemmas.List.Elements.{filter_agree}
use Rattle.mime_base.specs.Cache.Bytes.{Stands}
use Rattle.mime_base.specs.Format.Rules.{GlobsAt, LiteralsAt}
use Rattle.mime_base.specs.Format.Sorted.{with_key}
use Rattle.mime_base.specs.Format.Stored.{glob_rules, reversed_ending, stored_text, tree_rules}
use Rattle.mime_base.specs.Format.SuffixTree.{SuffixTreeAt, fronts}
use Rattle.mime_base.specs.Kept.{FitsRank}
use Rattle.mime_base.specs.Matching.Folding.{compared}
use Rattle.mime_base.specs.Matching.Matches.{rule_matches}
use Rattle.mime_base.specs.declared.database.rule.GlobRule.{GlobRule}
use Rattle.mime_view.specs.Hits.{ending_rules, glob_list_hits, literal_hits, offered_twice, takes_rule, tree_hits}
use Rattle.mime_view.specs.declared.hits.Case.{Case}
use Rattle.mime_view.specs.declared.hits.Case.TheVariants.{Exact, Folded}
use Rattle.mime_view.proofs.HitsLemmas.StoredRules.{rule_matches-stored}
use Rattle.mime_lookup.proofs.SpellingLemmas.Lists.{endings_once, globs_once, literals_once}
use Rattle.mime_lookup.proofs.SpellingLemmas.Mapped.{appends-alike, filters-alike, flat_maps-alike}
use Rattle.mime_lookup.proofs.SpellingLemmas.StoredRules.{as_stored}

-- the glob rules that stand
pub record GlobRulesAt (c : List ℕ) (literals tree globs : ℕ) (rules : List GlobRule) : Type 0 where
  pub fit : All FitsRank rules
  pub literals_stand : LiteralsAt (Stands c) literals rules
  pub tree_stands : SuffixTreeAt (Stands c) tree rules
  pub globs_stand : GlobsAt (Stands c) globs rules

-- matching rules of the glob list are those that match as they are stored
glob_list_hits-stored : (name : List ℕ) (rules : List GlobRule)
    → glob_list_hits name rules ≡ filter (λ rule. rule_matches (stored_text rule) rule.cased name) (glob_rules rules)
glob_list_hits-stored name rules =
    filter_agree (λ rule. rule_matches rule.pattern rule.cased name) (λ rule. rule_matches (stored_text rule) rule.cased name)
    (λ rule. sym (rule_matches-stored rule name)) (glob_rules rules)

module _ (c : List ℕ) (literals tree globs : ℕ) (rules others : List GlobRule) (one : GlobRulesAt c literals tree globs rules)
    (other : GlobRulesAt c literals tree globs others) (name : List ℕ) where
  -- the rules that a search of the literals takes
  literal_hits-once : (case : Case) (key : List ℕ)
      → map as_stored (literal_hits case key rules) ≡ map as_stored (literal_hits case key others)
  literal_hits-once case key =
      let listed = filters-alike as_stored (λ rule. takes_rule case rule.cased) (with_key stored_text key one.literals_stand.entries)
      (with_key stored_text key other.literals_stand.entries)
      (filters-alike as_stored (λ rule. bytes_eq rule.pattern key) one.literals_stand.entries other.literals_stand.entries
      (literals_once c literals rules others one.fit other.fit one.literals_stand other.literals_stand)) in
      ap (λ (these : List GlobRule). map as_stored (filter (λ rule. takes_rule case rule.cased) these))
      (sym (one.literals_stand.sorted.ties key))
      ∙ listed
      ∙ ap (λ (these : List GlobRule). map as_stored (filter (λ rule. takes_rule case rule.cased) these))
      (other.literals_stand.sorted.ties key)

  -- the rules that a walk of the tree takes
  tree_hits-once : (case : Case) (key : List ℕ) → map as_stored (tree_hits case key rules) ≡ map as_stored (tree_hits case key others)
  tree_hits-once case key =
      filters-alike as_stored (λ rule. takes_rule case rule.cased) (ending_rules key rules) (ending_rules key others)
      (flat_maps-alike as_stored (λ path. with_key reversed_ending path (tree_rules rules))
      (λ path. with_key reversed_ending path (tree_rules others))
      (endings_once c tree rules others one.fit other.fit one.tree_stands other.tree_stands) (fronts (reverse key)))

  -- the rules of the glob list that match
  glob_list_hits-once : map as_stored (glob_list_hits name rules) ≡ map as_stored (glob_list_hits name others)
  glob_list_hits-once =
      ap (map as_stored) (glob_list_hits-stored name rules)
      ∙ filters-alike as_stored (λ rule. rule_matches rule.pattern rule.cased name) (glob_rules rules) (glob_rules others)
      (globs_once c globs rules others one.fit other.fit one.globs_stand other.globs_stand)
      ∙ sym (ap (map as_stored) (glob_list_hits-stored name others))

  -- all that are offered
  pub offered_twice-once : map as_stored (offered_twice name rules) ≡ map as_stored (offered_twice name others)
  offered_twice-once =
      let small = compared false name in
      appends-alike as_stored (literal_hits Exact name rules) (literal_hits Exact name others) _ _ (literal_hits-once Exact name)
      (appends-alike as_stored (literal_hits Folded small rules) (literal_hits Folded small others) _ _ (literal_hits-once Folded small)
      (appends-alike as_stored (tree_hits Exact name rules) (tree_hits Exact name others) _ _ (tree_hits-once Exact name)
      (appends-alike as_stored (tree_hits Folded small rules) (tree_hits Folded small others) _ _ (tree_hits-once Folded small)
      glob_list_hits-once)))
