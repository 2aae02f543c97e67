-- Worked rows of type names, patterns and classes, which compute.
use Rattle.std.specs.Prelude.{◌≡◌, ℕ, zero, suc, true, false, refl, codes, List, [], ◌∷◌}
use Rattle.mime_base.specs.Kept.Classes.{class_of}
use Rattle.mime_base.specs.Names.{is_icon_name, is_pattern, is_type_name}
use Rattle.mime_base.specs.declared.kept.class.Class.TheVariants.{Literal, Suffix, Full}

-- that many times the letter a
abbrev letters : ℕ → List ℕ
letters zero = []
letters (suc n) = 97 ∷ letters n

pub name_limits-type_names :
    (is_type_name (codes "t/a") ≡ true)
    × (is_type_name (codes "/ab") ≡ false)
    × (is_type_name (codes "ab/") ≡ false)
    × (is_type_name (codes "a b/c") ≡ false)
    × (is_type_name (codes "t/") ≡ false)
unfolding is_type_name
name_limits-type_names = (refl, refl, refl, refl, refl)

pub name_limits-patterns :
    (is_pattern [] ≡ false)
    × (is_pattern (codes "a:b") ≡ false)
    × (is_pattern (codes "*") ≡ true)
unfolding is_pattern
name_limits-patterns = (refl, refl, refl)

pub type_name-bytes :
    (is_type_name (codes "text") ≡ false)
    × (is_type_name (codes "a:b/c") ≡ false)
    × (is_type_name (codes "a/b/c") ≡ true)
    × (is_type_name (97 ∷ 47 ∷ 127 ∷ 255 ∷ []) ≡ true)
    × (is_type_name (97 ∷ 47 ∷ 31 ∷ []) ≡ false)
unfolding is_type_name
type_name-bytes = (refl, refl, refl, refl, refl)

pub type_name-length :
    (is_type_name (97 ∷ 47 ∷ letters 253) ≡ true)
    × (is_type_name (97 ∷ 47 ∷ letters 254) ≡ false)
unfolding is_type_name
type_name-length = (refl, refl)

pub pattern-bytes :
    (is_pattern (0 ∷ []) ≡ false)
    × (is_pattern (10 ∷ []) ≡ false)
    × (is_pattern (13 ∷ 32 ∷ 255 ∷ []) ≡ true)
unfolding is_pattern
pattern-bytes = (refl, refl, refl)

pub pattern-length :
    (is_pattern (letters 255) ≡ true)
    × (is_pattern (letters 256) ≡ false)
unfolding is_pattern
pattern-length = (refl, refl)

pub icon_name-bytes :
    (is_icon_name (codes "a:b") ≡ true)
    × (is_icon_name [] ≡ false)
    × (is_icon_name (97 ∷ 0 ∷ []) ≡ false)
    × (is_icon_name (97 ∷ 10 ∷ []) ≡ false)
unfolding is_icon_name
icon_name-bytes = (refl, refl, refl, refl)

pub icon_name-length :
    (is_icon_name (letters 255) ≡ true)
    × (is_icon_name (letters 256) ≡ false)
unfolding is_icon_name
icon_name-length = (refl, refl)

pub class_of-literal :
    (class_of [] ≡ Literal)
    × (class_of (codes "makefile") ≡ Literal)
    × (class_of (codes "a]b") ≡ Literal)
unfolding class_of
class_of-literal = (refl, refl, refl)

pub class_of-suffix :
    (class_of (codes "*") ≡ Suffix)
    × (class_of (codes "*.tar.gz") ≡ Suffix)
unfolding class_of
class_of-suffix = (refl, refl)

pub class_of-full :
    (class_of (codes "**") ≡ Full)
    × (class_of (codes "*.g?") ≡ Full)
    × (class_of (codes "a*") ≡ Full)
    × (class_of (codes "[a") ≡ Full)
    × (class_of (codes "\\a") ≡ Full)
    × (class_of (codes "?") ≡ Full)
unfolding class_of
class_of-full = (refl, refl, refl, refl, refl, refl)
