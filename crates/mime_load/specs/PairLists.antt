-- The parts of a cache that subclasses are found by.
use Rattle.std.specs.Prelude.{ℕ, List}
use Rattle.mime_base.specs.Cache.Bytes.{Stands}
use Rattle.mime_base.specs.Format.Header.{HeaderAt, Offsets}
use Rattle.mime_base.specs.Format.Pairs.{PairsAt}
use Rattle.mime_base.specs.Format.Parents.{ParentsAt}
use Rattle.mime_load.specs.Lent.{plain_pairs}
use Rattle.mime_load.specs.declared.pair_lists.PairLists.{PairLists}

-- Aliases and subclass pairs stand in a cache where its header says.
pub record HasPairs (c : List ℕ) (alias_pairs parent_pairs : List (List ℕ × List ℕ)) : Type 0 where
  -- Where each part stands.
  pub offsets : Offsets
  -- The header says so.
  pub header : HeaderAt (Stands c) offsets
  -- The aliases stand.
  pub aliases : PairsAt (Stands c) offsets.aliases alias_pairs
  -- The types stand with their parents.
  pub parents : ParentsAt (Stands c) offsets.parents parent_pairs

-- the aliases and the subclass pairs of lists do
abbrev pub ArePairLists : List ℕ → PairLists → Type 0
ArePairLists c lists = HasPairs c (plain_pairs lists.aliases.items) (plain_pairs lists.parents.items)
