-- Which parts of a database must stand in a cache for a step of a lookup to answer it.
use Rattle.std.specs.Prelude.{◌≡◌, ℕ, List, All, true}
use Rattle.mime_base.specs.Cache.Bytes.{Stands}
use Rattle.mime_base.specs.Database.{PlainDatabase}
use Rattle.mime_base.specs.Format.Header.{HeaderAt, Offsets}
use Rattle.mime_base.specs.Format.Magic.{MagicAt}
use Rattle.mime_base.specs.Format.Pairs.{PairsAt}
use Rattle.mime_base.specs.Format.Parents.{ParentsAt}
use Rattle.mime_base.specs.Format.Rules.{GlobsAt, LiteralsAt}
use Rattle.mime_base.specs.Format.SuffixTree.{SuffixTreeAt}
use Rattle.mime_base.specs.Kept.{FitsRank}
use Rattle.mime_base.specs.Magic.{are_allowed_sections}

-- what the types of a name are found by: the glob rules, and the aliases
pub record SpellsGlobs (c : List ℕ) (b : PlainDatabase) : Type 0 where
  pub ranks : All FitsRank b.rules
  pub offsets : Offsets
  pub header : HeaderAt (Stands c) offsets
  pub aliases : PairsAt (Stands c) offsets.aliases b.aliases
  pub literals : LiteralsAt (Stands c) offsets.literals b.rules
  pub tree : SuffixTreeAt (Stands c) offsets.tree b.rules
  pub globs : GlobsAt (Stands c) offsets.globs b.rules

-- what a content is sniffed by: the sections of magic, and the aliases
pub record SpellsMagic (c : List ℕ) (b : PlainDatabase) : Type 0 where
  pub lines : are_allowed_sections b.sections ≡ true
  pub offsets : Offsets
  pub header : HeaderAt (Stands c) offsets
  pub aliases : PairsAt (Stands c) offsets.aliases b.aliases
  pub magic : MagicAt (Stands c) offsets.magic b.sections

-- what a subclass is found by: the parents, and the aliases
pub record SpellsPairs (c : List ℕ) (b : PlainDatabase) : Type 0 where
  pub offsets : Offsets
  pub header : HeaderAt (Stands c) offsets
  pub aliases : PairsAt (Stands c) offsets.aliases b.aliases
  pub parents : ParentsAt (Stands c) offsets.parents b.parents

-- what icons are found by: both lists of icons, and the aliases
pub record SpellsIcons (c : List ℕ) (b : PlainDatabase) : Type 0 where
  pub offsets : Offsets
  pub header : HeaderAt (Stands c) offsets
  pub aliases : PairsAt (Stands c) offsets.aliases b.aliases
  pub icons : PairsAt (Stands c) offsets.icons b.icons
  pub generic_icons : PairsAt (Stands c) offsets.generic_icons b.generic_icons
