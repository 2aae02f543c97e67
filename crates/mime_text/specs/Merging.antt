pub mod Rows
pub mod Gathering
pub mod Hiding
pub mod TwinKeys
pub mod Buckets
-- What merged data directories say, the most preferred first.
use Rattle.std.specs.Prelude.{ℕ, ◌≡◌, ◌-◌, nat_lt, Bool, not, List, [], ◌∷◌, ◌++◌, map, filter, bytes_eq, if◌then◌else◌, length, drop}
use Rattle.std.specs.Borrow.{Bor}
use Rattle.std.specs.Int.{from_be_bytes, w64}
use Rattle.std.specs.List.{AllByRecursion, flat_map, list_any}
use Rattle.mime_base.specs.Database.{PlainDatabase}
use Rattle.mime_base.specs.Falling.{falling}
use Rattle.mime_base.specs.Kept.Hidden.{visible}
use Rattle.mime_base.specs.Kept.Twins.{without_twins}
use Rattle.mime_base.specs.Magic.{PlainSection, plain_sections}
use Rattle.mime_base.specs.Database.PlainPairs.{is_same_pair, plain_icons, plain_pairs}
use Rattle.mime_base.specs.declared.database.rule.GlobRule.{GlobRule}
use Rattle.mime_text.specs.declared.merging.DirFiles as code

-- what the files of one directory say
pub record PlainDir : Type 0 where
  pub rules : List GlobRule
  pub deleted_globs : List (List ℕ)
  pub sections : List PlainSection
  pub deleted_magic : List (List ℕ)
  pub aliases : List (List ℕ × List ℕ)
  pub subclasses : List (List ℕ × List ℕ)
  pub icons : List (List ℕ × List ℕ)
  pub generic_icons : List (List ℕ × List ℕ)

-- ---- markers

-- whether a type is one of these
abbrev pub is_among : List (List ℕ) → List ℕ → Bool
is_among kinds kind = list_any (bytes_eq kind) kinds

-- the items whose type is none of these
abbrev pub without : {A : Type 0} → (A → List ℕ) → List (List ℕ) → List A → List A
without kind_of kinds items = filter (λ item. not (is_among kinds (kind_of item))) items

-- the items of directories: the types that a directory deletes are left out of those after it
abbrev pub undeleted : {A : Type 0} → (A → List ℕ) → List (List A × List (List ℕ)) → List A
undeleted kind_of [] = []
undeleted kind_of (dir ∷ dirs) = dir.0 ++ without kind_of dir.1 (undeleted kind_of dirs)

-- ---- first entries

-- the entries that are not the same as an earlier one
abbrev pub once : {A : Type 0} → (A → A → Bool) → List A → List A
once same [] = []
once same (entry ∷ entries) = entry ∷ filter (λ other. not (same entry other)) (once same entries)

-- two pairs that begin with the same name: an alias, or a type with an icon
abbrev pub has_same_name : (List ℕ × List ℕ) → (List ℕ × List ℕ) → Bool
has_same_name left right = bytes_eq left.0 right.0

-- two entries of one key
abbrev pub has_same_key : {A : Type 0} → (A → List ℕ × List ℕ) → A → A → Bool
has_same_key key_of left right = is_same_pair (key_of left) (key_of right)

-- the last eight bytes of a name as a number, 0 of a shorter name
abbrev pub tail_of : List ℕ → ℕ
tail_of name = if nat_lt (length name) 8 then 0 else from_be_bytes w64 (drop (length name - 8) name)

-- the numbers of keys are those of their names
abbrev pub AreTailed : List (ℕ × Bor (List ℕ) × Bor (List ℕ)) → Type 0
AreTailed keys = AllByRecursion (λ key. key.0 ≡ tail_of key.1.now) keys

-- which of these keys are none of those before
abbrev pub marks : List (List ℕ × List ℕ) → List (List ℕ × List ℕ) → List Bool
marks seen [] = []
marks seen (key ∷ keys) = not (list_any (is_same_pair key) seen) ∷ marks (key ∷ seen) keys

-- the entries that are marked
abbrev pub picked : {A : Type 0} → List Bool → List A → List A
picked [] entries = []
picked (mark ∷ more) [] = []
picked (mark ∷ more) (entry ∷ entries) = if mark then entry ∷ picked more entries else picked more entries

-- ---- the merged lists

-- all rules, less those of a type that a more preferred directory deletes
abbrev pub merged_rules : List PlainDir → List GlobRule
merged_rules dirs = undeleted (λ rule. rule.kind) (map (λ dir. (dir.rules, dir.deleted_globs)) dirs)

-- all sections, less those of a type that a more preferred directory deletes
abbrev pub undeleted_sections : List PlainDir → List PlainSection
undeleted_sections dirs =
    undeleted (λ section. section.kind) (map (λ dir. (dir.sections, dir.deleted_magic)) dirs)

-- a directory after a more preferred one: rules and sections without what that deletes, sections by
-- falling priority, and of aliases, subclass pairs and icons the first of each
unfoldable pub merged : List PlainDir → PlainDatabase
merged dirs = record {
  rules = merged_rules dirs;
  aliases = once has_same_name (flat_map (λ dir. dir.aliases) dirs);
  parents = once is_same_pair (flat_map (λ dir. dir.subclasses) dirs);
  sections = falling (λ section. section.priority) (undeleted_sections dirs);
  icons = once has_same_name (flat_map (λ dir. dir.icons) dirs);
  generic_icons = once has_same_name (flat_map (λ dir. dir.generic_icons) dirs);
}

-- a database with other rules
abbrev pub with_rules : PlainDatabase → List GlobRule → PlainDatabase
with_rules b rules = record {
  rules = rules;
  aliases = b.aliases;
  parents = b.parents;
  sections = b.sections;
  icons = b.icons;
  generic_icons = b.generic_icons;
}

-- a database without the rules that are never kept
abbrev pub visible_database : PlainDatabase → PlainDatabase
visible_database b = with_rules b (visible b.rules)

-- a database without the twins of case-sensitive rules
abbrev pub twinless_database : PlainDatabase → PlainDatabase
twinless_database b = with_rules b (without_twins b.rules)

-- ---- the values of the code

-- what the files of one directory say
abbrev pub plain_dir : code.DirFiles → PlainDir
plain_dir dir = record {
  rules = dir.globs.rules.items;
  deleted_globs = dir.globs.deleted.items;
  sections = plain_sections dir.magic.sections.items;
  deleted_magic = dir.magic.deleted.items;
  aliases = plain_pairs dir.aliases.pairs.items;
  subclasses = plain_pairs dir.subclasses.pairs.items;
  icons = plain_icons dir.icons.icons.items;
  generic_icons = plain_icons dir.generic_icons.icons.items;
}

-- the same of directories, in their order
abbrev pub plain_dirs : List code.DirFiles → List PlainDir
plain_dirs dirs = map plain_dir dirs
