-- The icons of a type ("The mime.cache files"). Those that stand in for a missing one are this project's own.
use Rattle.std.specs.Prelude.{◌≡◌, ℕ, ◌==◌, if◌then◌else◌, List, [], ◌∷◌, ◌++◌, map, Option, None, Some, Result, IfOk, codes}
use Rattle.mime_base.specs.Cache.Bytes.{field}
use Rattle.mime_base.specs.Database.{PlainDatabase}
use Rattle.mime_base.specs.Database.Subclass.{resolved}
use Rattle.mime_lookup.specs.Spelling.{SpellsIcons}
use Rattle.mime_lookup.specs.declared.cached.icons.Icons.{Icons}
use Rattle.mime_view.specs.Lists.{LiesList}
use Rattle.mime_view.specs.Pairs.{looked_up}

-- the names of a type's icon and of its generic icon
pub record PlainIcons : Type 0 where
  pub icon : List ℕ
  pub generic : List ℕ

-- the name itself, where there is one, else the other
abbrev pub name_or : Option (List ℕ) → List ℕ → List ℕ
name_or None other = other
name_or (Some name) other = name

-- a hyphen (45) for a slash (47), and any other byte for itself
abbrev pub hyphen_for_slash : ℕ → ℕ
hyphen_for_slash b = if b == 47 then 45 else b

-- a type with a hyphen for each slash
abbrev pub with_hyphens : List ℕ → List ℕ
with_hyphens kind = map hyphen_for_slash kind

-- the bytes before the first slash, all without one
abbrev pub before_slash : List ℕ → List ℕ
before_slash [] = []
before_slash (b ∷ bytes) = if b == 47 then [] else b ∷ before_slash bytes

-- the generic icon of a type by what stands before its first slash
abbrev pub generic_of_media : List ℕ → List ℕ
generic_of_media kind = before_slash kind ++ codes "-x-generic"

-- the icons of a type that was resolved
abbrev pub icons_by : PlainDatabase → List ℕ → PlainIcons
icons_by b kind = record {
  icon = name_or (looked_up b.icons kind) (with_hyphens kind);
  generic = name_or (looked_up b.generic_icons kind) (generic_of_media kind);
}

-- the icons of a type, after one alias step
abbrev pub icons_of : PlainDatabase → List ℕ → PlainIcons
icons_of b kind = icons_by b (resolved b.aliases kind)

-- the lists of aliases, of icons and of generic icons lie in the cache
pub record HasIconLists (c : List ℕ) : Type 0 where
  pub aliases : LiesList c (field c 0 1) 8
  pub icons : LiesList c (field c 0 8) 8
  pub generic_icons : LiesList c (field c 0 9) 8

-- the plain value of what is answered
abbrev pub plain_icons_of : Icons → PlainIcons
plain_icons_of icons = record { icon = icons.icon.items; generic = icons.generic.items }

-- where the aliases and both lists of icons stand, an answer is the icons of the type
abbrev pub AnswersIcons : {X E : Type 0} → (X → PlainIcons) → List ℕ → List ℕ → Result X E → Type 0
AnswersIcons plain c kind result =
    (b : PlainDatabase) → SpellsIcons c b → IfOk result (λ icons. plain icons ≡ icons_of b kind)
