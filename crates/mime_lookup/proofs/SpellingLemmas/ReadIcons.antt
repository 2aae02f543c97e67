-- The aliases and the icons of a cache that were read back are those that it spells.
use Rattle.std.proofs.Common.{◌≡◌, ℕ, List, [], sym, ap, ap₂, subst, ◌∙◌}
use Rattle.std.proofs.lemmas.List.{map-id}
use Rattle.mime_base.specs.Cache.Bytes.{Stands}
use Rattle.mime_base.specs.Database.{PlainDatabase}
use Rattle.mime_base.specs.Database.Subclass.{resolved}
use Rattle.mime_base.specs.Format.Header.{Offsets}
use Rattle.mime_base.specs.Format.Pairs.{IsPair, PairsAt}
use Rattle.mime_load.proofs.NextRecords.{same_pair}
use Rattle.mime_load.specs.IconLists.{AreIconLists}
use Rattle.mime_load.specs.Lent.{plain_pairs}
use Rattle.mime_load.specs.declared.icon_lists.IconLists.{IconLists}
use Rattle.mime_lookup.specs.Icons.{HasIconLists, PlainIcons, generic_of_media, icons_by, icons_of, name_or, with_hyphens}
use Rattle.mime_lookup.specs.IconsReadBack.{AreIcons, AreIconsOf, HasNameMaps}
use Rattle.mime_lookup.specs.Spelling.{SpellsIcons}
use Rattle.mime_lookup.specs.declared.icon_index.IconIndex.{IconIndex}
use Rattle.mime_lookup.proofs.SpellingLemmas.Aliases.{resolved_once}
use Rattle.mime_lookup.proofs.SpellingLemmas.Records.{same_list, same_offsets}
use Rattle.mime_lookup.proofs.SpellingLemmas.TargetSteps.{pairs_inside}
use Rattle.mime_view.specs.Lists.{LiesList}
use Rattle.mime_view.specs.Pairs.{looked_up}
use Rattle.mime_view.proofs.ListLemmas.Headers.{aliases_read, generic_icons_read, icons_read}
use Rattle.mime_view.proofs.ListLemmas.Spelled.{looked_up-sorted}

-- their database
abbrev pub listed_icons : IconLists → PlainDatabase
listed_icons lists = record {
  rules = [];
  aliases = plain_pairs lists.aliases.items;
  parents = [];
  sections = [];
  icons = plain_pairs lists.icons.items;
  generic_icons = plain_pairs lists.generic_icons.items;
}

-- an index of lists that stand in a cache is that of what it spells
pub icons_of_lists : (c : List ℕ) (lists : IconLists) (index : IconIndex) → AreIconLists c lists
    → HasNameMaps index
    → AreIcons (plain_pairs lists.aliases.items) (plain_pairs lists.icons.items) (plain_pairs lists.generic_icons.items) index
    → AreIconsOf c index
icons_of_lists c lists index stand found are = record {
  database = listed_icons lists;
  spelled = record {
    offsets = stand.offsets;
    header = stand.header;
    aliases = stand.aliases;
    icons = stand.icons;
    generic_icons = stand.generic_icons;
  };
  found = found;
  are = are;
}

-- two lists of pairs that stand at one place have one target for a name
looked_up_once : (c : List ℕ) (at : ℕ) (some others : List (List ℕ × List ℕ)) → PairsAt (Stands c) at some
    → PairsAt (Stands c) at others → (name : List ℕ) → looked_up some name ≡ looked_up others name
looked_up_once c at some others one other name =
    let listed = same_list (λ (pair : List ℕ × List ℕ). pair) c 8 (IsPair (Stands c)) (same_pair c) at one.entries other.entries
    one.stand other.stand in
    let same : one.entries ≡ other.entries = sym (map-id one.entries) ∙ listed ∙ map-id other.entries in
    sym (looked_up-sorted some one.entries name one.sorted) ∙ ap (λ entries. looked_up entries name) same
    ∙ looked_up-sorted others other.entries name other.sorted

-- whatever databases a cache spells, a type has one icon and one generic icon
pub icons_once : (c : List ℕ) (b d : PlainDatabase) → SpellsIcons c b → SpellsIcons c d → (kind : List ℕ)
    → icons_of b kind ≡ icons_of d kind
icons_once c b d one other kind =
    let places = same_offsets c one.offsets other.offsets one.header other.header in
    let aliases = subst (λ (o : Offsets). PairsAt (Stands c) o.aliases b.aliases) places one.aliases in
    let icons = subst (λ (o : Offsets). PairsAt (Stands c) o.icons b.icons) places one.icons in
    let generic_icons = subst (λ (o : Offsets). PairsAt (Stands c) o.generic_icons b.generic_icons) places one.generic_icons in
    let type = resolved d.aliases kind in
    let made : List ℕ → List ℕ → PlainIcons = λ icon generic. record { icon = icon; generic = generic } in
    ap (icons_by b) (resolved_once c other.offsets.aliases b.aliases d.aliases aliases other.aliases kind)
    ∙ ap₂ made
    (ap (λ name. name_or name (with_hyphens type)) (looked_up_once c other.offsets.icons b.icons d.icons icons other.icons type))
    (ap (λ name. name_or name (generic_of_media type))
    (looked_up_once c other.offsets.generic_icons b.generic_icons d.generic_icons generic_icons other.generic_icons type))

-- lists that stand in a cache lie in it
pub icons_inside : (c : List ℕ) (b : PlainDatabase) → SpellsIcons c b → HasIconLists c
icons_inside c b spelled =
    let lies = λ (at : ℕ) (pairs : List (List ℕ × List ℕ)) (stand : PairsAt (Stands c) at pairs).
    pairs_inside c at stand.entries stand.stand in
    let o = spelled.offsets in
    record {
      aliases = subst (λ (at : ℕ). LiesList c at 8) (sym (aliases_read c o spelled.header)) (lies o.aliases b.aliases spelled.aliases);
      icons = subst (λ (at : ℕ). LiesList c at 8) (sym (icons_read c o spelled.header)) (lies o.icons b.icons spelled.icons);
      generic_icons =
          subst (λ (at : ℕ). LiesList c at 8) (sym (generic_icons_read c o spelled.header))
          (lies o.generic_icons b.generic_icons spelled.generic_icons);
    }
