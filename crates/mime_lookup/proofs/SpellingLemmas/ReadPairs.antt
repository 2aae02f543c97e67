-- The aliases and the parents of a cache that were read back are pairs that it spells.
use Rattle.std.proofs.Common.{ℕ, List, [], map, subst, sym}
use denote.Bor.{Bor}
use Rattle.mime_base.specs.Database.{PlainDatabase}
use Rattle.mime_base.specs.Database.Subclass.{above, parents, resolved}
use Rattle.mime_load.specs.Lent.{plain_pairs}
use Rattle.mime_load.specs.PairLists.{ArePairLists}
use Rattle.mime_load.specs.declared.pair_lists.PairLists.{PairLists}
use Rattle.mime_lookup.specs.PairsReadBack.{AreSteps, AreStepsOf, step_in}
use Rattle.mime_lookup.specs.NameMap.{IsNameMap}
use Rattle.mime_lookup.specs.Places.{IsAbove}
use Rattle.mime_lookup.specs.ReadBack.{AreTargets, AreTargetsOf, target_in}
use Rattle.mime_lookup.specs.declared.name_map.NameMap.{NameMap}
use Rattle.mime_lookup.specs.declared.places.Above.{Above}
use Rattle.mime_lookup.proofs.SpellingLemmas.Mapped.{maps_agree}

-- their pairs
abbrev pub listed_pairs : PairLists → PlainDatabase
listed_pairs lists = record {
  rules = [];
  aliases = plain_pairs lists.aliases.items;
  parents = plain_pairs lists.parents.items;
  sections = [];
  icons = [];
  generic_icons = [];
}

module _ (c : List ℕ) (lists : PairLists) (stand : ArePairLists c lists) (targets : NameMap (Bor (List ℕ)))
    (are : AreTargets (plain_pairs lists.aliases.items) targets) where
  -- the targets are those of the cache
  pub pairs_targets : IsNameMap targets → AreTargetsOf c targets
  pairs_targets valid = record {
    offsets = stand.offsets;
    header = stand.header;
    aliases = plain_pairs lists.aliases.items;
    stand = stand.aliases;
    valid = valid;
    are = are;
  }

  -- so are the steps
  pub pairs_steps : (steps : NameMap Above) → IsNameMap steps
      → AreSteps (λ kind. map (target_in targets) (parents (plain_pairs lists.parents.items) kind)) steps → AreStepsOf c steps
  unfolding above
  pairs_steps steps valid stepped = record {
    database = listed_pairs lists;
    spelled = record { offsets = stand.offsets; header = stand.header; aliases = stand.aliases; parents = stand.parents };
    valid = valid;
    are = λ kind.
        subst (λ (kinds : List (List ℕ)). IsAbove kinds (step_in steps kind))
        (sym (maps_agree (resolved (plain_pairs lists.aliases.items)) (target_in targets) are (parents (plain_pairs lists.parents.items) kind)))
        (stepped kind);
  }
