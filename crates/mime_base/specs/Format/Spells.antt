-- When the bytes of a cache spell a database. Where records and texts lie is free.
use Rattle.std.specs.Prelude.{◌≤◌, ℕ, List, length}
use Rattle.mime_base.specs.Cache.Bytes.{Stands}
use Rattle.mime_base.specs.Database.{PlainDatabase}
use Rattle.mime_base.specs.Format.Header.{HeaderAt, Offsets}
use Rattle.mime_base.specs.Format.Magic.{MagicAt}
use Rattle.mime_base.specs.Format.Pairs.{PairsAt}
use Rattle.mime_base.specs.Format.Parents.{ParentsAt}
use Rattle.mime_base.specs.Format.Rules.{GlobsAt, LiteralsAt}
use Rattle.mime_base.specs.Format.SuffixTree.{SuffixTreeAt}

-- the most bytes that a cache may have
abbrev pub cache_limit : ℕ
cache_limit = 268435456

-- The bytes spell a database: a header stands, and at its offsets each part.
pub record Spells (c : List ℕ) (b : PlainDatabase) : Type 0 where
  -- There are no more bytes than a cache may have.
  pub within : length c ≤ cache_limit
  -- Where the parts begin.
  pub offsets : Offsets
  -- The header says so.
  pub header : HeaderAt (Stands c) offsets
  -- The aliases, each with the type that it stands for.
  pub aliases : PairsAt (Stands c) offsets.aliases b.aliases
  -- The types that have a parent, each with all its parents.
  pub parents : ParentsAt (Stands c) offsets.parents b.parents
  -- The literal rules.
  pub literals : LiteralsAt (Stands c) offsets.literals b.rules
  -- The suffix rules.
  pub tree : SuffixTreeAt (Stands c) offsets.tree b.rules
  -- The other rules.
  pub globs : GlobsAt (Stands c) offsets.globs b.rules
  -- The sections of magic, with their lines.
  pub magic : MagicAt (Stands c) offsets.magic b.sections
  -- The icons, each with its type.
  pub icons : PairsAt (Stands c) offsets.icons b.icons
  -- The generic icons, likewise.
  pub generic_icons : PairsAt (Stands c) offsets.generic_icons b.generic_icons
