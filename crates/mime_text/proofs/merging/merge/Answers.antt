-- The lists of the database.
use Rattle.std.proofs.Common.{◌∙◌, ap, refl}
use Rattle.mime_base.specs.Magic.{are_allowed_sections, plain_sections}
use Rattle.mime_base.specs.Database.PlainPairs.{is_same_pair, plain_icon, plain_icons, plain_pair, plain_pairs}
use Rattle.mime_text.proofs.Merges.Gathered.{plain_lists, plain_rules, plain_undeleted, undeleted_allowed}
use Rattle.mime_text.proofs.Merges.Plain.{aliases_once, aliases_plain, icons_once, icons_plain, parents_once, parents_plain, same_lists}
use Rattle.mime_text.proofs.Merges.Plain.{sections_allowed, sections_fall, sections_plain}
use Rattle.mime_base.specs.Falling.{falling}
use Rattle.mime_text.specs.Merging.{has_same_name, merged, once}
use Rattle.mime_text.proofs.merging.merge.Goals as goal

pub invariant_of-result : goal.invariant_of-result
invariant_of-result c =
    let dirs = c.args.dirs.items in
    let read = c.in_ok-rules.field-0 in
    let lists = c.in_ok-rules.ensures in
    record {
      aliases_once = aliases_once _ read.aliases.items c.in_ok-first_of_each.ensures;
      parents_once = parents_once _ read.subclasses.items c.in_ok-first_of_each-2.ensures;
      by_priority = sections_fall _ read.sections.items.items c.in_ok-by_priority.ensures;
      allowed = sections_allowed _ read.sections.items.items c.in_ok-by_priority.ensures
          (ap are_allowed_sections (ap plain_sections lists.sections.kept ∙ plain_undeleted dirs) ∙ undeleted_allowed dirs);
      icons_once = icons_once _ read.icons.items c.in_ok-first_of_each-3.ensures;
      generic_icons_once = icons_once _ read.generic_icons.items c.in_ok-first_of_each-4.ensures;
    }

pub returns : goal.returns
unfolding merged
returns c =
    let dirs = c.args.dirs.items in
    let read = c.in_ok-rules.field-0 in
    let lists = c.in_ok-rules.ensures in
    record {
      merged = same_lists _ _ _ _ _ _ _ _ _ _ _ _
          (lists.rules.kept ∙ plain_rules dirs)
          (aliases_plain _ read.aliases.items c.in_ok-first_of_each.ensures
          ∙ ap (once has_same_name) (ap plain_pairs lists.aliases
          ∙ plain_lists plain_pair (λ dir. dir.aliases.pairs.items) (λ dir. dir.aliases) (λ dir. refl) dirs))
          (parents_plain _ read.subclasses.items c.in_ok-first_of_each-2.ensures
          ∙ ap (once is_same_pair) (ap plain_pairs lists.subclasses
          ∙ plain_lists plain_pair (λ dir. dir.subclasses.pairs.items) (λ dir. dir.subclasses) (λ dir. refl) dirs))
          (sections_plain _ read.sections.items.items c.in_ok-by_priority.ensures
          ∙ ap (falling (λ section. section.priority)) (ap plain_sections lists.sections.kept ∙ plain_undeleted dirs))
          (icons_plain _ read.icons.items c.in_ok-first_of_each-3.ensures
          ∙ ap (once has_same_name) (ap plain_icons lists.icons
          ∙ plain_lists plain_icon (λ dir. dir.icons.icons.items) (λ dir. dir.icons) (λ dir. refl) dirs))
          (icons_plain _ read.generic_icons.items c.in_ok-first_of_each-4.ensures
          ∙ ap (once has_same_name) (ap plain_icons lists.generic_icons
          ∙ plain_lists plain_icon (λ dir. dir.generic_icons.icons.items) (λ dir. dir.generic_icons) (λ dir. refl) dirs));
    }
