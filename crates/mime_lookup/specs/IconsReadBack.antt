-- The icons of types, kept by the types' names.
use Rattle.std.specs.Prelude.{ℕ, List}
use Rattle.mime_base.specs.Database.{PlainDatabase}
use Rattle.mime_base.specs.Database.PlainPairs as plain
use Rattle.mime_base.specs.declared.database.Database.{Database}
use Rattle.mime_lookup.specs.NameMap.{IsNameMap}
use Rattle.mime_lookup.specs.Named.{AreNamed}
use Rattle.mime_lookup.specs.ReadBack.{AreTargets}
use Rattle.mime_lookup.specs.Spelling.{SpellsIcons}
use Rattle.mime_lookup.specs.declared.icon_index.IconIndex.{IconIndex}

-- The names of what is kept are found.
pub record HasNameMaps (index : IconIndex) : Type 0 where
  -- Those of the aliases.
  pub aliases : IsNameMap index.aliases
  -- Those of types with an icon.
  pub icons : IsNameMap index.icons
  -- And with a generic icon.
  pub generic_icons : IsNameMap index.generic_icons

-- What is kept is that of these aliases and of these lists of icons.
pub record AreIcons (alias_pairs icon_pairs generic_pairs : List (List ℕ × List ℕ)) (index : IconIndex) : Type 0 where
  -- It is that of these aliases.
  pub aliases : AreTargets alias_pairs index.aliases
  -- It is that of these icons.
  pub icons : AreNamed icon_pairs index.icons
  -- And that of these generic icons.
  pub generic_icons : AreNamed generic_pairs index.generic_icons

-- What is kept is that of a database's lists.
pub record AreIconsIn (database : Database) (index : IconIndex) : Type 0 where
  -- Its names are found.
  pub found : HasNameMaps index
  -- It is that of these lists.
  pub are : AreIcons (plain.plain_pairs database.aliases.items) (plain.plain_icons database.icons.items)
      (plain.plain_icons database.generic_icons.items) index

-- What is kept is that of the lists that a cache spells.
pub record AreIconsOf (c : List ℕ) (index : IconIndex) : Type 0 where
  -- What the cache spells.
  pub database : PlainDatabase
  -- It does.
  pub spelled : SpellsIcons c database
  -- Its names are found.
  pub found : HasNameMaps index
  -- It is that of these lists.
  pub are : AreIcons database.aliases database.icons database.generic_icons index
