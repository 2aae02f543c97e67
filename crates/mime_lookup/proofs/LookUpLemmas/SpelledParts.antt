-- The parts of a database that stand in a cache that spells it.
use Rattle.std.proofs.Common.{List, ℕ, All, arith}
use Rattle.mime_base.specs.Database.{PlainDatabase}
use Rattle.mime_base.specs.Database.Limits.{IsWithinLimits, KeepsLimits}
use Rattle.mime_base.specs.Format.Spells.{Spells}
use Rattle.mime_base.specs.Kept.{FitsRank}
use Rattle.mime_base.specs.declared.database.rule.GlobRule.{GlobRule}
use Rattle.mime_lookup.specs.Spelling.{SpellsGlobs, SpellsIcons, SpellsMagic, SpellsPairs}
use Rattle.mime_view.specs.NameHits.{SpellsRules}

-- a rule within the limits fits a rank
ranks-fit : (rules : List GlobRule) → All KeepsLimits rules → All FitsRank rules
ranks-fit rules keep = λ k d here. let is = keep k d here in (is.0, omega (arith, is.1))

-- the subclasses
pub spelled_pairs : (c : List ℕ) (b : PlainDatabase) → Spells c b → SpellsPairs c b
spelled_pairs c b spells = record {
  offsets = spells.offsets;
  header = spells.header;
  aliases = spells.aliases;
  parents = spells.parents;
}

-- the icons
pub spelled_icons : (c : List ℕ) (b : PlainDatabase) → Spells c b → SpellsIcons c b
spelled_icons c b spells = record {
  offsets = spells.offsets;
  header = spells.header;
  aliases = spells.aliases;
  icons = spells.icons;
  generic_icons = spells.generic_icons;
}

-- the glob rules
pub spelled_globs : (c : List ℕ) (b : PlainDatabase) → IsWithinLimits b → Spells c b → SpellsGlobs c b
spelled_globs c b within spells = record {
  ranks = ranks-fit b.rules within.rules;
  offsets = spells.offsets;
  header = spells.header;
  aliases = spells.aliases;
  literals = spells.literals;
  tree = spells.tree;
  globs = spells.globs;
}

-- the rules alone
pub spelled_rules : (c : List ℕ) (b : PlainDatabase) → SpellsGlobs c b → SpellsRules c b.rules
spelled_rules c b globs = record {
  offsets = globs.offsets;
  header = globs.header;
  literals = globs.literals;
  tree = globs.tree;
  globs = globs.globs;
}

-- the sections of magic
pub spelled_magic : (c : List ℕ) (b : PlainDatabase) → IsWithinLimits b → Spells c b → SpellsMagic c b
spelled_magic c b within spells = record {
  lines = within.lines;
  offsets = spells.offsets;
  header = spells.header;
  aliases = spells.aliases;
  magic = spells.magic;
}
