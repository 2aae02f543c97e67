-- All glob rules of a cache as a program lists them, and what listing them costs.
pub mod Reads
pub mod Faults
pub mod Sources
pub mod Walks
use Rattle.std.specs.Prelude.{◌≡◌, ℕ, ◌+◌, ◌*◌, ◌/◌, ◌%◌, ◌<◌, ◌≤◌, ◌==◌, All, Bool, List, ◌++◌, length, map, Result, Ok, IfErr}
use Rattle.mime_base.specs.Cache.Bytes.{field}
use Rattle.mime_base.specs.Cache.Texts.{text_at}
use Rattle.mime_base.specs.Format.Sorted.{IsSortedByText}
use Rattle.mime_base.specs.Format.Stored.{glob_rules, literal_rules, reversed_ending, stored_text, tree_rules}
use Rattle.mime_base.specs.Format.SuffixTree.{tree_size}
use Rattle.mime_base.specs.declared.database.rule.GlobRule.{GlobRule}
use Rattle.mime_view.specs.Spending.{Gives, Spends, per_record}
use Rattle.mime_view.specs.declared.fault.CacheFault.{CacheFault}
use Rattle.mime_view.specs.declared.rules.listing.Listed.{Listed}
use Rattle.mime_view.specs.declared.rules.row.Row.{Row}
use Rattle.mime_view.specs.declared.spending.Spending.{Spending}

-- A rule as it is listed.
pub record PlainListed : Type 0 where
  -- Its weight.
  pub weight : ℕ
  -- The type that it gives.
  pub kind : List ℕ
  -- Its pattern as it is stored.
  pub pattern : List ℕ
  -- Whether it is case-sensitive.
  pub cased : Bool

-- the plain value of a listed rule
abbrev pub plain_listed : Listed → PlainListed
plain_listed listed = record {
  weight = listed.weight;
  kind = listed.kind.now;
  pattern = listed.pattern.items;
  cased = listed.cased;
}

-- the weight, and the case-sensitive flag 0x100, of a number that has both
abbrev pub listed_by : ℕ → List ℕ → List ℕ → PlainListed
listed_by flags kind pattern = record {
  weight = flags % 256;
  kind = kind;
  pattern = pattern;
  cased = flags / 256 % 2 == 1;
}

-- what is listed of a rule
abbrev pub listed_rule : GlobRule → PlainListed
listed_rule rule = record {
  weight = rule.weight;
  kind = rule.kind;
  pattern = stored_text rule;
  cased = rule.cased;
}

-- The literal rules and those of the tree, each by their texts, and then those of the glob list, in merged order.
pub record IsListing (rules : List GlobRule) (listed : List PlainListed) : Type 0 where
  -- The literal rules in the order in which they are listed.
  pub literals : List GlobRule
  -- Those of the tree.
  pub leaves : List GlobRule
  -- The literal rules are by rising stored texts, and those of one text in merged order.
  pub sorted_literals : IsSortedByText stored_text (literal_rules rules) literals
  -- Those of the tree are by rising endings, read from their ends, likewise.
  pub sorted_leaves : IsSortedByText reversed_ending (tree_rules rules) leaves
  -- Each is listed, and no other.
  pub is : listed ≡ map listed_rule (literals ++ (leaves ++ glob_rules rules))

-- a type that is a text of the cache, and a pattern of at most 255 bytes
abbrev pub IsListed : List ℕ → PlainListed → Type 0
IsListed c listed = ((place : ℕ) × (text_at c place ≡ Ok listed.kind)) × (length listed.pattern < 256)

-- A row that is taken from the record at `at`.
pub record IsRow (c : List ℕ) (at : ℕ) (old new : Spending) (row : Row) : Type 0 where
  -- Its first number is the record's.
  pub first : row.first ≡ field c at 0
  -- So is its second.
  pub second : row.second ≡ field c at 1
  -- And its third.
  pub third : row.third ≡ field c at 2
  -- It took a record of the budget.
  pub taken : new.budget.records + 1 ≡ old.budget.records

-- what a step adds to a listing where these rules stand, by that many records: their rows, in their order
abbrev pub AddsRules : {X : Type 0} → List GlobRule → ℕ → List PlainListed → List PlainListed → Spending → Spending
    → Result X CacheFault → Type 0
AddsRules rules records before after old new result = Gives (λ _. after ≡ before ++ map listed_rule rules) records old new result

-- how many records the rules of a cache take that lists them: one for each entry of a list, and one for each node of the tree
abbrev pub listing_records : List GlobRule → ℕ
listing_records rules = length (literal_rules rules) + tree_size rules + length (glob_rules rules)

-- What a step adds to a listing on any bytes, and what it costs.
pub record Adds {X : Type 0} (c : List ℕ) (Fault : ℕ → CacheFault → Type 0) (nodes : ℕ) (before after : List PlainListed)
    (old new : Spending) (result : Result X CacheFault) : Type 0 where
  -- Each rule that it adds has a text of the cache as its type, and a short pattern.
  pub texts : All (IsListed c) before → All (IsListed c) after
  -- Where it stops, such a fault says why, by the records that are left.
  pub fault : IfErr result (Fault new.budget.records)
  -- Each record adds one node and at most 512 bytes, and that many nodes come besides.
  pub cost : Spends (per_record 512) nodes 0 old new
