-- The lists of directories, a directory more at a time and as plain values.
use Rattle.std.proofs.Common.{◌≡◌, ℕ, true, not, List, [], ◌∷◌, ◌++◌, map, ap, ap₂, ◌∙◌, refl, sym, subst, append-nil}
use Rattle.std.proofs.lemmas.Bool.{and_from}
use Rattle.std.proofs.lemmas.Grind.{flat_map-append}
use Rattle.std.proofs.lemmas.List.{map-append, map_push}
use Rattle.std.proofs.lemmas.List.Folds.{list_all-append}
use Rattle.std.specs.List.{flat_map}
use Rattle.mime_base.specs.Magic.{are_allowed_sections, plain_section, plain_sections}
use Rattle.mime_text.proofs.Merges.Filters.{filter-map, list_all-filter}
use Rattle.mime_text.proofs.Merges.Undeleted.{keeps-more}
use Rattle.mime_text.specs.Merging.{PlainDir, is_among, merged_rules, plain_dir, plain_dirs, undeleted, undeleted_sections, without}
use Rattle.mime_text.specs.Merging.Gathering.{AddsDirectory, Gathers, KeepsParts, globs_part, magic_part}
use Rattle.mime_text.specs.declared.merging.DirFiles.{DirFiles}
use Rattle.mime_text.specs.declared.merging.Lists.{Lists}

-- ---- a directory more

-- a list more
append-more : {X : Type 0} (f : DirFiles → List X) (items new : List X) (dirs : List DirFiles) (dir : DirFiles) → items ≡ flat_map f dirs
    → new ≡ items ++ f dir → new ≡ flat_map f (dirs ++ dir ∷ [])
append-more f items new dirs dir so_far added =
    added ∙ ap₂ ◌++◌ so_far (sym (append-nil (f dir))) ∙ sym (flat_map-append f dirs (dir ∷ []))

-- a part more
part-more : {A : Type 0} (kind_of : A → List ℕ) (part : DirFiles → List A × List (List ℕ)) (dirs : List DirFiles) (dir : DirFiles)
    (items : List A) (deleted : List (List ℕ)) → KeepsParts kind_of items deleted (map part dirs ++ part dir ∷ [])
    → KeepsParts kind_of items deleted (map part (dirs ++ dir ∷ []))
part-more kind_of part dirs dir items deleted keeps = subst (KeepsParts kind_of items deleted) (sym (map_push part dirs dir)) keeps

-- all lists of a directory more
pub gathers-more : (lists new : Lists) (dirs : List DirFiles) (dir : DirFiles) → Gathers lists dirs → AddsDirectory lists dir new
    → Gathers new (dirs ++ dir ∷ [])
gathers-more lists new dirs dir gathers adds = record {
  rules = part-more _ globs_part dirs dir _ _ (keeps-more _ _ _ (globs_part dir) _ _ (map globs_part dirs) gathers.rules adds.rules);
  sections = part-more _ magic_part dirs dir _ _
      (keeps-more _ _ _ (magic_part dir) _ _ (map magic_part dirs) gathers.sections adds.sections);
  aliases = append-more (λ d. d.aliases.pairs.items) _ _ dirs dir gathers.aliases adds.aliases;
  subclasses = append-more (λ d. d.subclasses.pairs.items) _ _ dirs dir gathers.subclasses adds.subclasses;
  icons = append-more (λ d. d.icons.icons.items) _ _ dirs dir gathers.icons adds.icons;
  generic_icons = append-more (λ d. d.generic_icons.icons.items) _ _ dirs dir gathers.generic_icons adds.generic_icons;
}

-- ---- plain values

-- rules are plain values
pub plain_rules : (dirs : List DirFiles) → undeleted (λ rule. rule.kind) (map globs_part dirs) ≡ merged_rules (plain_dirs dirs)
plain_rules [] = refl
plain_rules (dir ∷ dirs) =
    ap (λ rules. dir.globs.rules.items ++ without (λ rule. rule.kind) dir.globs.deleted.items rules) (plain_rules dirs)

-- what markers leave of sections, as plain values
pub plain_undeleted : (dirs : List DirFiles)
    → plain_sections (undeleted (λ section. section.kind) (map magic_part dirs)) ≡ undeleted_sections (plain_dirs dirs)
plain_undeleted [] = refl
plain_undeleted (dir ∷ dirs) =
    let kinds = dir.magic.deleted.items in
    let rest = undeleted (λ section. section.kind) (map magic_part dirs) in
    map-append plain_section dir.magic.sections.items (without (λ section. section.kind) kinds rest)
    ∙ ap (λ sections. plain_sections dir.magic.sections.items ++ sections)
    (sym (filter-map plain_section (λ section. not (is_among kinds section.kind)) rest)
    ∙ ap (without (λ section. section.kind) kinds) (plain_undeleted dirs))

-- a list of all directories, as plain values
pub plain_lists : {X Y : Type 0} (f : X → Y) (items : DirFiles → List X) (plain : PlainDir → List Y)
    → ((dir : DirFiles) → map f (items dir) ≡ plain (plain_dir dir))
    → (dirs : List DirFiles) → map f (flat_map items dirs) ≡ flat_map plain (plain_dirs dirs)
plain_lists f items plain agree [] = refl
plain_lists f items plain agree (dir ∷ dirs) =
    map-append f (items dir) (flat_map items dirs) ∙ ap₂ ◌++◌ (agree dir) (plain_lists f items plain agree dirs)

-- each line of what markers leave is one that magic can spell
pub undeleted_allowed : (dirs : List DirFiles) → are_allowed_sections (undeleted_sections (plain_dirs dirs)) ≡ true
undeleted_allowed [] = refl
undeleted_allowed (dir ∷ dirs) =
    let rest = undeleted_sections (plain_dirs dirs) in
    list_all-append _ (plain_sections dir.magic.sections.items) (without (λ section. section.kind) dir.magic.deleted.items rest)
    ∙ and_from _ _ dir.magic.allowed (list_all-filter _ _ rest (undeleted_allowed dirs))
