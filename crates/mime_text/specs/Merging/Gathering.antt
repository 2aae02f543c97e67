-- The lists of directories while they are merged, as values of the code.
use Rattle.std.specs.Prelude.{◌≡◌, ℕ, List, ◌++◌, map}
use Rattle.std.specs.List.{flat_map}
use Rattle.mime_base.specs.declared.database.rule.GlobRule.{GlobRule}
use Rattle.mime_base.specs.declared.magic.Section.{Section}
use Rattle.mime_text.specs.declared.merging.DirFiles as code
use Rattle.mime_text.specs.declared.merging.Lists.{Lists}
use Rattle.mime_text.specs.Merging.{is_among, undeleted, without}

-- the rules of a directory, and the types whose rules it deletes
abbrev pub globs_part : code.DirFiles → List GlobRule × List (List ℕ)
globs_part dir = (dir.globs.rules.items, dir.globs.deleted.items)

-- the sections of a directory, and the types whose sections it deletes
abbrev pub magic_part : code.DirFiles → List Section × List (List ℕ)
magic_part dir = (dir.magic.sections.items, dir.magic.deleted.items)

-- what is kept of these parts, and the types that they delete
pub record KeepsParts {A : Type 0} (kind_of : A → List ℕ) (items : List A) (deleted : List (List ℕ))
    (parts : List (List A × List (List ℕ))) : Type 0 where
  pub kept : items ≡ undeleted kind_of parts
  pub kinds : (kind : List ℕ) → is_among deleted kind ≡ is_among (flat_map (λ part. part.1) parts) kind

-- the lists of these directories, one after another
pub record Gathers (lists : Lists) (dirs : List code.DirFiles) : Type 0 where
  pub rules : KeepsParts (λ rule. rule.kind) lists.rules.items.items lists.rules.deleted (map globs_part dirs)
  pub sections : KeepsParts (λ section. section.kind) lists.sections.items.items lists.sections.deleted (map magic_part dirs)
  pub aliases : lists.aliases.items ≡ flat_map (λ dir. dir.aliases.pairs.items) dirs
  pub subclasses : lists.subclasses.items ≡ flat_map (λ dir. dir.subclasses.pairs.items) dirs
  pub icons : lists.icons.items ≡ flat_map (λ dir. dir.icons.icons.items) dirs
  pub generic_icons : lists.generic_icons.items ≡ flat_map (λ dir. dir.generic_icons.icons.items) dirs

-- items and types to which a part was added
pub record AddsPart {A : Type 0} (kind_of : A → List ℕ) (items : List A) (deleted : List (List ℕ))
    (part : List A × List (List ℕ)) (new_items : List A) (new_deleted : List (List ℕ)) : Type 0 where
  pub kept : new_items ≡ items ++ without kind_of deleted part.0
  pub kinds : (kind : List ℕ) → is_among new_deleted kind ≡ is_among (deleted ++ part.1) kind

-- lists to which a directory was added
pub record AddsDirectory (old : Lists) (dir : code.DirFiles) (new : Lists) : Type 0 where
  pub rules : AddsPart (λ rule. rule.kind) old.rules.items.items old.rules.deleted
      (globs_part dir) new.rules.items.items new.rules.deleted
  pub sections : AddsPart (λ section. section.kind) old.sections.items.items old.sections.deleted
      (magic_part dir) new.sections.items.items new.sections.deleted
  pub aliases : new.aliases.items ≡ old.aliases.items ++ dir.aliases.pairs.items
  pub subclasses : new.subclasses.items ≡ old.subclasses.items ++ dir.subclasses.pairs.items
  pub icons : new.icons.items ≡ old.icons.items ++ dir.icons.icons.items
  pub generic_icons : new.generic_icons.items ≡ old.generic_icons.items ++ dir.generic_icons.icons.items
