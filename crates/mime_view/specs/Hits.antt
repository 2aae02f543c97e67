-- What a cache offers for a name, and what it costs.
use Rattle.std.specs.Prelude.{◌≡◌, ℕ, ◌+◌, ◌≤◌, Bool, true, false, not, ◌||◌, List, ◌++◌}
use Rattle.std.specs.Prelude.{length, min, filter, reverse}
use Rattle.std.specs.List.{flat_map}
use Rattle.mime_base.specs.Format.Sorted.{with_key}
use Rattle.mime_base.specs.Format.Stored.{glob_rules, is_in_globs, literal_rules, reversed_ending, stored_text, tree_rules}
use Rattle.mime_base.specs.Format.SuffixTree.{fronts, tree_size}
use Rattle.mime_base.specs.Kept.{candidate_rules, kept_rules}
use Rattle.mime_base.specs.Matching.Folding.{compared}
use Rattle.mime_base.specs.Matching.Matches.{rule_matches}
use Rattle.mime_base.specs.Meter.{raised}
use Rattle.mime_base.specs.declared.database.rule.GlobRule.{GlobRule}
use Rattle.mime_view.specs.declared.hits.Case.{Case}
use Rattle.mime_view.specs.declared.hits.Case.TheVariants.{Both, Exact, Folded}
use Rattle.mime_view.specs.declared.spending.Spending.{Spending}

-- whether a search takes a rule with or without the case-sensitive flag
abbrev pub takes_rule : Case → Bool → Bool
takes_rule Exact cased = cased
takes_rule Folded cased = not cased
takes_rule Both cased = true

-- how many visits more a visit stands for: that of the other search where one serves both
abbrev pub extra_visits : Case → ℕ
extra_visits Exact = 0
extra_visits Folded = 0
extra_visits Both = 1

-- how many records a visit takes
abbrev pub visits : Case → ℕ
visits case = 1 + extra_visits case

-- A visit of a search is paid for, and that of the other search is counted where one serves both.
pub record IsVisit (case : Case) (old new : Spending) : Type 0 where
  -- The records of the visit are taken.
  pub records : new.budget.records + visits case ≡ old.budget.records
  -- No value byte is.
  pub value_bytes : new.budget.value_bytes ≡ old.budget.value_bytes
  -- What the other search would visit is added to the meter, until the sum stops.
  pub nodes : new.meter.nodes ≡ raised old.meter.nodes (extra_visits case)
  -- So the meter's nodes never fall.
  pub rises : old.meter.nodes ≤ new.meter.nodes
  -- No bytes are added.
  pub bytes : new.meter.bytes ≡ old.meter.bytes

-- the literal rules of a text that a search for it takes
abbrev pub literal_hits : Case → List ℕ → List GlobRule → List GlobRule
literal_hits case key rules = filter (λ rule. takes_rule case rule.cased) (with_key stored_text key (literal_rules rules))

-- how many entries of the literal list a search for a text visits: those of the text, and the one after them
abbrev pub literal_visits : List ℕ → List GlobRule → ℕ
literal_visits key rules =
    min (length (with_key stored_text key (literal_rules rules)) + 1) (length (literal_rules rules))

-- the rules of the tree with an ending of the name, the shortest first
abbrev pub ending_rules : List ℕ → List GlobRule → List GlobRule
ending_rules name rules =
    flat_map (λ path. with_key reversed_ending path (tree_rules rules)) (fronts (reverse name))

-- those that a walk along the name takes
abbrev pub tree_hits : Case → List ℕ → List GlobRule → List GlobRule
tree_hits case name rules = filter (λ rule. takes_rule case rule.cased) (ending_rules name rules)

-- how many records of the tree a walk along the name visits at most: leaves, and on each level the one after them
abbrev pub tree_visits : List ℕ → List GlobRule → ℕ
tree_visits name rules = min (length (ending_rules name rules) + length name) (tree_size rules)

-- the case-sensitive literal rules of a name, and the others of the folded name
abbrev pub literals_twice : List ℕ → List GlobRule → List GlobRule
literals_twice name rules = literal_hits Exact name rules ++ literal_hits Folded (compared false name) rules

-- how many entries both searches visit
abbrev pub literal_visits_twice : List ℕ → List GlobRule → ℕ
literal_visits_twice name rules = literal_visits name rules + literal_visits (compared false name) rules

-- the case-sensitive rules of the tree along a name, and the others along the folded name
abbrev pub tree_twice : List ℕ → List GlobRule → List GlobRule
tree_twice name rules = tree_hits Exact name rules ++ tree_hits Folded (compared false name) rules

-- how many records of the tree both walks visit at most
abbrev pub tree_visits_twice : List ℕ → List GlobRule → ℕ
tree_visits_twice name rules = tree_visits name rules + tree_visits (compared false name) rules

-- the rules of the glob list that match the name
abbrev pub glob_list_hits : List ℕ → List GlobRule → List GlobRule
glob_list_hits name rules = filter (λ rule. rule_matches rule.pattern rule.cased name) (glob_rules rules)

-- what the lists offer for a name that folding leaves alone: one search of the literals, one walk, then the glob list
abbrev pub offered_once : List ℕ → List GlobRule → List GlobRule
offered_once name rules = literal_hits Both name rules ++ (tree_hits Both name rules ++ glob_list_hits name rules)

-- what they offer for any other name: the searches for the name and for the folded name, likewise both walks
abbrev pub offered_twice : List ℕ → List GlobRule → List GlobRule
offered_twice name rules =
    literal_hits Exact name rules ++ (literal_hits Folded (compared false name) rules ++ (tree_hits Exact name rules
    ++ (tree_hits Folded (compared false name) rules ++ glob_list_hits name rules)))

-- how many records are taken for a name at most
abbrev pub hit_visits : List ℕ → List GlobRule → ℕ
hit_visits name rules =
    literal_visits_twice name rules + (tree_visits_twice name rules + length (glob_rules rules))

-- how many rules are general patterns, or match the name once both texts are folded
abbrev pub near : List ℕ → List GlobRule → ℕ
near name rules = length (filter (λ rule. is_in_globs rule || rule_matches rule.pattern false name) rules)

-- no more rules are kept for a name than are near it
abbrev pub KeptAreNear : Type 0
KeptAreNear = (name : List ℕ) (rules : List GlobRule) → length (kept_rules rules name) ≤ near name rules

-- nor are there more candidates
abbrev pub CandidatesAreNear : Type 0
CandidatesAreNear = (name : List ℕ) (rules : List GlobRule) → length (candidate_rules rules name) ≤ near name rules
