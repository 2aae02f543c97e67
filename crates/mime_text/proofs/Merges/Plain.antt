-- The merged lists as plain values, and what a database keeps by its type.
use Rattle.std.proofs.Common.{◌≡◌, ℕ, true, List, [], ap, ◌∙◌, refl, sym, subst}
use Rattle.std.proofs.Math.Bool.{and-true}
use Rattle.std.specs.Str.{bytes_eq}
use Rattle.mime_base.specs.Database.{PlainDatabase}
use Rattle.mime_base.specs.Falling.{falling}
use Rattle.mime_base.specs.Magic.{FallByPriority, PlainSection, are_allowed_sections, plain_section, plain_sections}
use Rattle.mime_base.specs.Database.PlainPairs.{are_distinct_pairs, have_distinct_names, is_same_pair, plain_icon, plain_icons, plain_pair}
use Rattle.mime_base.specs.Database.PlainPairs.{plain_pairs}
use Rattle.mime_base.specs.declared.database.icon.Icon.{Icon}
use Rattle.mime_base.specs.declared.database.pair.Pair.{Pair}
use Rattle.mime_base.specs.declared.database.rule.GlobRule.{GlobRule}
use Rattle.mime_base.specs.declared.magic.Section.{Section}
use Rattle.mime_base.proofs.FallingLemmas.Order.{falling-map, falls_falling, list_all-falling}
use Rattle.mime_base.proofs.FallingLemmas.Sorting.{sorted_from_falls}
use Rattle.mime_text.proofs.Merges.Once.{names_once, once-map, pairs_once}
use Rattle.mime_text.specs.Merging.{has_same_key, has_same_name, once}

-- ---- entries

-- the first pairs of each alias
pub aliases_plain : (kept pairs : List Pair) → kept ≡ once (has_same_key (λ pair. (pair.name, []))) pairs
    → plain_pairs kept ≡ once has_same_name (plain_pairs pairs)
aliases_plain kept pairs is =
    ap plain_pairs is ∙ once-map plain_pair _ has_same_name (λ left right. and-true (bytes_eq left.name right.name)) pairs

-- the first icons of each type
pub icons_plain : (kept icons : List Icon) → kept ≡ once (has_same_key (λ icon. (icon.kind, []))) icons
    → plain_icons kept ≡ once has_same_name (plain_icons icons)
icons_plain kept icons is =
    ap plain_icons is ∙ once-map plain_icon _ has_same_name (λ left right. and-true (bytes_eq left.kind right.kind)) icons

-- the first of equal subclass pairs
pub parents_plain : (kept pairs : List Pair) → kept ≡ once (has_same_key (λ pair. (pair.name, pair.target))) pairs
    → plain_pairs kept ≡ once is_same_pair (plain_pairs pairs)
parents_plain kept pairs is = ap plain_pairs is ∙ once-map plain_pair _ is_same_pair (λ left right. refl) pairs

-- each alias stands once
pub aliases_once : (kept pairs : List Pair) → kept ≡ once (has_same_key (λ pair. (pair.name, []))) pairs
    → have_distinct_names (plain_pairs kept) ≡ true
aliases_once kept pairs is = ap have_distinct_names (aliases_plain kept pairs is) ∙ names_once (plain_pairs pairs)

-- each type has one icon
pub icons_once : (kept icons : List Icon) → kept ≡ once (has_same_key (λ icon. (icon.kind, []))) icons
    → have_distinct_names (plain_icons kept) ≡ true
icons_once kept icons is = ap have_distinct_names (icons_plain kept icons is) ∙ names_once (plain_icons icons)

-- each subclass pair stands once
pub parents_once : (kept pairs : List Pair) → kept ≡ once (has_same_key (λ pair. (pair.name, pair.target))) pairs
    → are_distinct_pairs (plain_pairs kept) ≡ true
parents_once kept pairs is = ap are_distinct_pairs (parents_plain kept pairs is) ∙ pairs_once (plain_pairs pairs)

-- ---- sections

-- sections by falling priority
pub sections_plain : (sorted kept : List Section) → sorted ≡ falling (λ section. section.priority) kept
    → plain_sections sorted ≡ falling (λ section. section.priority) (plain_sections kept)
sections_plain sorted kept is = ap plain_sections is ∙ falling-map plain_section (λ section. section.priority) kept

-- they stand in order
pub sections_fall : (sorted kept : List Section) → sorted ≡ falling (λ section. section.priority) kept
    → FallByPriority (plain_sections sorted)
sections_fall sorted kept is =
    let priority = λ (section : PlainSection). section.priority in
    let sections = plain_sections kept in
    subst FallByPriority (sym (sections_plain sorted kept is))
    (sorted_from_falls priority (falling priority sections) (falls_falling priority sections))

-- each line is one that magic can spell
pub sections_allowed : (sorted kept : List Section) → sorted ≡ falling (λ section. section.priority) kept
    → are_allowed_sections (plain_sections kept) ≡ true → are_allowed_sections (plain_sections sorted) ≡ true
sections_allowed sorted kept is allowed =
    ap are_allowed_sections (sections_plain sorted kept is) ∙ list_all-falling (λ section. section.priority) _ (plain_sections kept) allowed

-- ---- the database

-- a database by its lists
pub same_lists : (rules rules' : List GlobRule) (aliases aliases' parents parents' : List (List ℕ × List ℕ))
    (sections sections' : List PlainSection) (icons icons' generic_icons generic_icons' : List (List ℕ × List ℕ))
    → rules ≡ rules' → aliases ≡ aliases' → parents ≡ parents' → sections ≡ sections' → icons ≡ icons' → generic_icons ≡ generic_icons'
    → ◌≡◌ {A = PlainDatabase} (record {
      rules = rules;
      aliases = aliases;
      parents = parents;
      sections = sections;
      icons = icons;
      generic_icons = generic_icons;
    }) (record {
      rules = rules';
      aliases = aliases';
      parents = parents';
      sections = sections';
      icons = icons';
      generic_icons = generic_icons';
    })
same_lists rules rules' aliases aliases' parents parents' sections sections' icons icons' generic_icons generic_icons' r a p s i g = cc
