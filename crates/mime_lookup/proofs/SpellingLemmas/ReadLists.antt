-- The lists of a cache that were read back are a database that it spells.
use Rattle.std.proofs.Common.{◌≡◌, ℕ, List, [], map, arith}
use Rattle.std.specs.List.{All}
use Rattle.std.proofs.lemmas.List.Elements.{All-weaker}
use denote.Bor.{Bor}
use Rattle.mime_base.specs.Database.{PlainDatabase}
use Rattle.mime_base.specs.Database.Limits.{KeepsLimits}
use Rattle.mime_base.specs.Kept.{FitsRank}
use Rattle.mime_load.specs.Lent.{plain_pairs}
use Rattle.mime_load.specs.NameLists.{AreNameLists, listed_rules}
use Rattle.mime_load.specs.declared.name_lists.NameLists.{NameLists}
use Rattle.mime_lookup.specs.Indexed.{unaliased_rule}
use Rattle.mime_lookup.specs.ReadBack.{AreRulesReadBack, AreTargets, AreTargetsOf}
use Rattle.mime_lookup.specs.NameMap.{IsNameMap}
use Rattle.mime_lookup.specs.declared.name_map.NameMap.{NameMap}
use Rattle.mime_lookup.specs.Spelling.{SpellsGlobs}
use Rattle.mime_names.specs.Index.{PlainIndex}

-- their rules and aliases
abbrev pub listed : NameLists → PlainDatabase
listed lists = record {
  rules = listed_rules lists;
  aliases = plain_pairs lists.aliases.items;
  parents = [];
  sections = [];
  icons = [];
  generic_icons = [];
}

module _ (c : List ℕ) (lists : NameLists) (stand : AreNameLists c lists) where
  -- their rules keep the limits of ranks
  pub ranks : All FitsRank (listed_rules lists)
  ranks = All-weaker KeepsLimits FitsRank (λ rule is. (is.0, omega (arith, is.1))) (listed_rules lists) stand.limits

  -- they are spelled
  spelled : SpellsGlobs c (listed lists)
  spelled = record {
    ranks = ranks;
    offsets = stand.offsets;
    header = stand.header;
    aliases = stand.aliases;
    literals = stand.rules.literals_stand;
    tree = stand.rules.tree_stands;
    globs = stand.rules.globs_stand;
  }

  -- these are the rules of the cache
  pub rules_of_lists : (index : PlainIndex) → index.given ≡ map (unaliased_rule (plain_pairs lists.aliases.items)) (listed_rules lists)
      → index.own ≡ listed_rules lists → AreRulesReadBack c index
  rules_of_lists index are own = record { database = listed lists; spelled = spelled; are = are; own = own }

  -- these are the targets of its aliases
  pub targets_of_lists : (targets : NameMap (Bor (List ℕ))) → IsNameMap targets
      → AreTargets (plain_pairs lists.aliases.items) targets
      → AreTargetsOf c targets
  targets_of_lists targets valid are = record {
    offsets = stand.offsets;
    header = stand.header;
    aliases = plain_pairs lists.aliases.items;
    stand = stand.aliases;
    valid = valid;
    are = are;
  }
