-- The parts of a database, each in the order in which a cache holds it, and what they take.
use Rattle.std.specs.Prelude.{◌≡◌, ℕ, ◌+◌, List, map}
use Rattle.mime_base.specs.Format.Room.{pairs_room, rules_room, sections_room}
use Rattle.mime_base.specs.Format.Sorted.{IsSortedByText}
use Rattle.mime_base.specs.Format.Stored.{glob_rules, literal_rules, stored_text, tree_rules}
use Rattle.mime_base.specs.Magic.{plain_sections}
use Rattle.mime_base.specs.Database.PlainPairs.{plain_icons, plain_pairs}
use Rattle.mime_base.specs.Format.Runs.{first_text}
use Rattle.mime_base.specs.declared.database.Database as code
use Rattle.mime_base.specs.declared.magic.Section.{Section}
use Rattle.mime_store.specs.SuffixTree.{AreEndings, entries_room, ending_entry}
use Rattle.mime_store.specs.Runs.{plain_run, runs_room}
use Rattle.mime_store.specs.Views.{pair_texts, rule_of}
use Rattle.mime_store.specs.declared.run.Run.{Run}
use Rattle.mime_store.specs.declared.parts.Parts.{Parts}

-- the parts are those of the database
pub record AreParts (parts : Parts) (b : code.Database) : Type 0 where
  pub aliases : IsSortedByText first_text (plain_pairs b.aliases.items) (map pair_texts parts.aliases.items)
  pub parents : IsSortedByText first_text (plain_pairs b.parents.items) (map pair_texts parts.parents.items)
  pub literals : IsSortedByText stored_text (literal_rules b.rules.items) (map rule_of parts.literals.items)
  pub endings : AreEndings (map (ending_entry 0) parts.endings.items) (tree_rules b.rules.items)
  pub globs : map rule_of parts.globs.items ≡ glob_rules b.rules.items
  pub icons : IsSortedByText first_text (plain_icons b.icons.items) (map pair_texts parts.icons.items)
  pub generic_icons : IsSortedByText first_text (plain_icons b.generic_icons.items) (map pair_texts parts.generic_icons.items)

-- what the parts, the runs of the parents and the sections take, with header, counts and heads
abbrev pub parts_room : Parts → List Run → List Section → ℕ
parts_room parts runs sections =
    88 + pairs_room (map pair_texts parts.aliases.items) + runs_room (map plain_run runs)
    + rules_room (map rule_of parts.literals.items) + entries_room (map (ending_entry 0) parts.endings.items)
    + rules_room (map rule_of parts.globs.items) + sections_room (plain_sections sections)
    + pairs_room (map pair_texts parts.icons.items) + pairs_room (map pair_texts parts.generic_icons.items)
