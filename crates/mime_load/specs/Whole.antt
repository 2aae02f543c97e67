-- A cache that is read back whole.
use Rattle.std.specs.Prelude.{◌≡◌, ◌≤◌, ℕ, ◌+◌, List, length, slice_index}
use Rattle.mime_base.specs.Cache.Bytes.{Stands}
use Rattle.mime_base.specs.Format.Header.{version}
use Rattle.mime_base.specs.Database.Limits.{IsWithinLimits}
use Rattle.mime_base.specs.Format.Packed.{record_bytes, value_length}
use Rattle.mime_base.specs.Format.Records.{CardsAt}
use Rattle.mime_base.specs.Format.Rules.{GlobsAt, LiteralsAt}
use Rattle.mime_base.specs.Format.SuffixTree.{SuffixTreeAt}
use Rattle.mime_base.specs.Format.Spells.{Spells, cache_limit}
use Rattle.mime_base.specs.declared.database.rule.GlobRule.{GlobRule}
use Rattle.mime_load.specs.Lent.{plain_lists}
use Rattle.mime_load.specs.declared.lists.Lists.{Lists}
use Rattle.mime_load.specs.declared.taking.Taking.{Taking}

-- the header of a cache of this version that is not too large
pub record IsHeader (c numbers : List ℕ) : Type 0 where
  pub stand : CardsAt (Stands c) 0 numbers
  pub count : length numbers ≡ 10
  pub version : slice_index numbers 0 ≡ version
  pub within : length c ≤ cache_limit

-- a literal list, a tree and a glob list of these rules stand at these offsets
pub record AreRules (c : List ℕ) (literals tree globs : ℕ) (rules : List GlobRule) : Type 0 where
  pub literals_stand : LiteralsAt (Stands c) literals rules
  pub tree_stands : SuffixTreeAt (Stands c) tree rules
  pub globs_stand : GlobsAt (Stands c) globs rules

-- the lists of a cache, which took their room
pub record AreLists (c : List ℕ) (old new : Taking) (lists : Lists) : Type 0 where
  pub spelled : Spells c (plain_lists lists)
  pub limits : IsWithinLimits (plain_lists lists)
  pub records : new.records + record_bytes (plain_lists lists) ≡ old.records
  pub values : new.value_bytes + value_length (plain_lists lists).sections ≡ old.value_bytes
