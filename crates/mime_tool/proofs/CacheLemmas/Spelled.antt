-- The parts of a database that a cache spells.
use Rattle.std.proofs.Common.{ℕ, List}
use Rattle.mime_base.specs.Database.{PlainDatabase}
use Rattle.mime_base.specs.Format.Spells.{Spells}
use Rattle.mime_lookup.specs.Spelling.{SpellsIcons, SpellsPairs}

-- its pairs
pub spelled_pairs : (c : List ℕ) (b : PlainDatabase) → Spells c b → SpellsPairs c b
spelled_pairs c b s = record { offsets = s.offsets; header = s.header; aliases = s.aliases; parents = s.parents }

-- its icons, and the aliases
pub spelled_icons : (c : List ℕ) (b : PlainDatabase) → Spells c b → SpellsIcons c b
spelled_icons c b s =
    record { offsets = s.offsets; header = s.header; aliases = s.aliases; icons = s.icons; generic_icons = s.generic_icons }
