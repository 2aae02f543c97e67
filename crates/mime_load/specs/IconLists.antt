-- The parts of a cache that icons are found by.
use Rattle.std.specs.Prelude.{ℕ, List}
use Rattle.mime_base.specs.Cache.Bytes.{Stands}
use Rattle.mime_base.specs.Format.Header.{HeaderAt, Offsets}
use Rattle.mime_base.specs.Format.Pairs.{PairsAt}
use Rattle.mime_load.specs.Lent.{plain_pairs}
use Rattle.mime_load.specs.declared.icon_lists.IconLists.{IconLists}

-- Aliases and both lists of icons stand in a cache where its header says.
pub record HasIcons (c : List ℕ) (alias_pairs icon_pairs generic_pairs : List (List ℕ × List ℕ)) : Type 0 where
  -- Where each part stands.
  pub offsets : Offsets
  -- The header says so.
  pub header : HeaderAt (Stands c) offsets
  -- The aliases stand.
  pub aliases : PairsAt (Stands c) offsets.aliases alias_pairs
  -- The icons stand.
  pub icons : PairsAt (Stands c) offsets.icons icon_pairs
  -- So do the generic icons.
  pub generic_icons : PairsAt (Stands c) offsets.generic_icons generic_pairs

-- the aliases and the icons of lists do
abbrev pub AreIconLists : List ℕ → IconLists → Type 0
AreIconLists c lists =
    HasIcons c (plain_pairs lists.aliases.items) (plain_pairs lists.icons.items) (plain_pairs lists.generic_icons.items)
