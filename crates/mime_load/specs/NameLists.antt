-- The parts of a cache that give types to names.
use Rattle.std.specs.Prelude.{ℕ, ◌+◌, ◌*◌, All, List, ◌++◌, length}
use Rattle.mime_base.specs.Cache.Bytes.{Stands}
use Rattle.mime_base.specs.Database.Limits.{KeepsLimits}
use Rattle.mime_base.specs.Format.Header.{HeaderAt, Offsets}
use Rattle.mime_base.specs.Format.Pairs.{PairsAt}
use Rattle.mime_base.specs.Format.Stored.{glob_rules, literal_rules}
use Rattle.mime_base.specs.Format.SuffixTree.{tree_size}
use Rattle.mime_base.specs.declared.database.rule.GlobRule.{GlobRule}
use Rattle.mime_load.specs.Lent.{plain_pairs, plain_rules}
use Rattle.mime_load.specs.Whole.{AreRules}
use Rattle.mime_load.specs.declared.name_lists.NameLists.{NameLists}

-- the rules of the literal list, of the tree and of the glob list
abbrev pub listed_rules : NameLists → List GlobRule
listed_rules lists = plain_rules lists.literals.items ++ (lists.leaves ++ plain_rules lists.globs.items)

-- Aliases and rules stand in a cache where its header says.
pub record HasNames (c : List ℕ) (pairs : List (List ℕ × List ℕ)) (all : List GlobRule) : Type 0 where
  -- Where each part stands.
  pub offsets : Offsets
  -- The header says so.
  pub header : HeaderAt (Stands c) offsets
  -- The aliases stand.
  pub aliases : PairsAt (Stands c) offsets.aliases pairs
  -- The rules stand in their three lists.
  pub rules : AreRules c offsets.literals offsets.tree offsets.globs all
  -- Each is one that the text files can spell.
  pub limits : All KeepsLimits all

-- the aliases and the rules of lists do
abbrev pub AreNameLists : List ℕ → NameLists → Type 0
AreNameLists c lists = HasNames c (plain_pairs lists.aliases.items) (listed_rules lists)

-- how many bytes the records of rules have: each entry of a list and each node of the tree twelve
abbrev pub rule_bytes : List GlobRule → ℕ
rule_bytes rules = 12 * (length (literal_rules rules) + tree_size rules + length (glob_rules rules))
