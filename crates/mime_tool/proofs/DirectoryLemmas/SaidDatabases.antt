-- The database that the texts of directories say is one.
use Rattle.std.proofs.Common.{◌≡◌, ◌∙◌, ℕ, List, ap, sym}
use Rattle.mime_base.specs.Database.{PlainDatabase}
use Rattle.mime_base.specs.Database.PlainPairs.{is_same_pair}
use Rattle.mime_base.specs.Falling.{falling}
use Rattle.mime_base.specs.Magic.{PlainSection}
use Rattle.mime_base.specs.declared.database.rule.GlobRule.{GlobRule}
use Rattle.mime_text.specs.DirTexts.{SayDatabase}
use Rattle.mime_text.specs.Merging.{PlainDir, has_same_name, merged, merged_rules, once, visible_database}
use Rattle.mime_text.specs.Merging.{undeleted_sections}
use Rattle.mime_text.specs.declared.dir_texts.DirTexts.{DirTexts}
use Rattle.mime_tool.proofs.DirectoryLemmas.SaidTexts.{AreAlike, all_alike, same_items, same_lists}

-- pairs of names
abbrev Pairs : Type 0
Pairs = List (List ℕ × List ℕ)

-- a database of these lists
abbrev made : List GlobRule → Pairs → Pairs → List PlainSection → Pairs → Pairs → PlainDatabase
made rules aliases parents sections icons generic_icons = record {
  rules = rules;
  aliases = aliases;
  parents = parents;
  sections = sections;
  icons = icons;
  generic_icons = generic_icons;
}

-- databases of the same lists are the same
same_made : (r r2 : List GlobRule) (a a2 p p2 : Pairs) (s s2 : List PlainSection) (i i2 g g2 : Pairs) → r ≡ r2 → a ≡ a2
    → p ≡ p2 → s ≡ s2
    → i ≡ i2 → g ≡ g2 → made r a p s i g ≡ made r2 a2 p2 s2 i2 g2
same_made r r2 a a2 p p2 s s2 i i2 g g2 er ea ep es ei eg =
    ap (λ x. made x a p s i g) er ∙ ap (λ x. made r2 x p s i g) ea ∙ ap (λ x. made r2 a2 x s i g) ep
    ∙ ap (λ x. made r2 a2 p2 x i g) es ∙ ap (λ x. made r2 a2 p2 s2 x g) ei ∙ ap (λ x. made r2 a2 p2 s2 i2 x) eg

-- directories that are alike merge to one database
pub merged_alike : (lefts rights : List PlainDir) → AreAlike lefts rights → merged lefts ≡ merged rights
unfolding merged
merged_alike lefts rights are =
    let rules : merged_rules lefts ≡ merged_rules rights =
    same_items (λ (rule : GlobRule). rule.kind) (λ dir. (dir.rules, dir.deleted_globs)) (λ l r is. (is.rules, is.deleted_globs))
    lefts rights are in
    let sections : undeleted_sections lefts ≡ undeleted_sections rights =
    same_items (λ (section : PlainSection). section.kind) (λ dir. (dir.sections, dir.deleted_magic))
    (λ l r is. (is.sections, is.deleted_magic)) lefts rights are in
    same_made _ _ _ _ _ _ _ _ _ _ _ _ rules
    (ap (once has_same_name) (same_lists (λ dir. dir.aliases) (λ l r is. is.aliases) lefts rights are))
    (ap (once is_same_pair) (same_lists (λ dir. dir.subclasses) (λ l r is. is.subclasses) lefts rights are))
    (ap (falling (λ (section : PlainSection). section.priority)) sections)
    (ap (once has_same_name) (same_lists (λ dir. dir.icons) (λ l r is. is.icons) lefts rights are))
    (ap (once has_same_name) (same_lists (λ dir. dir.generic_icons) (λ l r is. is.generic_icons) lefts rights are))

-- the texts of directories say one database
pub one_database : (dirs : List DirTexts) (left right : PlainDatabase) → SayDatabase dirs left → SayDatabase dirs right
    → left ≡ right
one_database dirs left right p q =
    p.2 ∙ ap visible_database (merged_alike p.0 q.0 (all_alike dirs p.0 q.0 p.1 q.1)) ∙ sym q.2
