-- A database as plain values: what merged data directories say.
pub mod Lent
pub mod Limits
pub mod LimitsRows
pub mod PlainPairs
pub mod Subclass
pub mod Rows
use Rattle.std.specs.Prelude.{ℕ, List}
use Rattle.mime_base.specs.Magic.{PlainSection, plain_sections}
use Rattle.mime_base.specs.Database.PlainPairs.{plain_icons, plain_pairs}
use Rattle.mime_base.specs.Database.Subclass.{Pairs}
use Rattle.mime_base.specs.declared.database.Database as code
use Rattle.mime_base.specs.declared.database.rule.GlobRule.{GlobRule}

-- rules, alias pairs, subclass pairs, sections and icons, each in merged order
pub record PlainDatabase : Type 0 where
  pub rules : List GlobRule
  pub aliases : List (List ℕ × List ℕ)
  pub parents : List (List ℕ × List ℕ)
  pub sections : List PlainSection
  pub icons : List (List ℕ × List ℕ)
  pub generic_icons : List (List ℕ × List ℕ)

-- the database of the code
abbrev pub plain_database : code.Database → PlainDatabase
plain_database b = record {
  rules = b.rules.items;
  aliases = plain_pairs b.aliases.items;
  parents = plain_pairs b.parents.items;
  sections = plain_sections b.sections.items;
  icons = plain_icons b.icons.items;
  generic_icons = plain_icons b.generic_icons.items;
}

-- the pairs by which its types are resolved and are subclasses of others
abbrev pub pairs_of : PlainDatabase → Pairs
pairs_of b = record { aliases = b.aliases; parents = b.parents }
