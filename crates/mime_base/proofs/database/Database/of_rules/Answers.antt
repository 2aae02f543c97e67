use Rattle.mime_base.proofs.DatabaseLemmas.{no_icons, no_lines, no_pairs, no_pairs_twice, no_sections}
use Rattle.mime_base.proofs.database.Database.of_rules.Goals as goal

-- src/database.rt:49:5
pub invariant_of-result : goal.invariant_of-result
invariant_of-result c = record {
  aliases_once = no_pairs _ c.new.ensures.items;
  parents_once = no_pairs_twice _ c.new-2.ensures.items;
  by_priority = no_sections _ c.new-3.ensures.items;
  allowed = no_lines _ c.new-3.ensures.items;
  icons_once = no_icons _ c.new-4.ensures.items;
  generic_icons_once = no_icons _ c.new-5.ensures.items;
}
