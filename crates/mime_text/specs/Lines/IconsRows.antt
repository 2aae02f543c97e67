-- Lines and texts of icons and generic-icons, computed.
use Rattle.std.specs.Prelude.{◌≡◌, ℕ, List, [], ◌∷◌, ◌++◌, map, codes, refl}
use Rattle.std.specs.List.{join_with_byte}
use Rattle.mime_base.specs.Names.{is_icon_name, is_type_name}
use Rattle.mime_base.specs.declared.database.icon.Icon.{Icon}
use Rattle.mime_text.specs.declared.lines.file.Line.TheVariants.{Spelled, Passed, Malformed}
use Rattle.mime_text.specs.Lines.{skipped_of}
use Rattle.mime_text.specs.Lines.File.{entries_by, line_by}
use Rattle.mime_text.specs.Lines.Icons.{icon_of, icons_in, is_malformed_icon}

abbrev icon : List ℕ → List ℕ → Icon
icon kind name = record { kind = kind; name = name }

-- a type, a colon and a name, which may hold more colons and spaces
pub icon_lines : map (line_by icon_of) (
    codes "t/a:x" ∷
    codes "# t/a:x" ∷
    [] ∷
    codes "t/b:c:d" ∷
    codes "t/b::" ∷
    codes "t/a: x y" ∷
    (codes "t/a:x" ++ 13 ∷ []) ∷
    codes ":y" ∷
    codes "t/a:" ∷
    codes "t/a" ∷
    codes "ta:x" ∷
    codes " t/a:x" ∷
    (codes "t/a:x" ++ 0 ∷ []) ∷ [])
    ≡ Spelled (icon (codes "t/a") (codes "x")) ∷
    Passed ∷
    Passed ∷
    Spelled (icon (codes "t/b") (codes "c:d")) ∷
    Spelled (icon (codes "t/b") (codes ":")) ∷
    Spelled (icon (codes "t/a") (codes " x y")) ∷
    Spelled (icon (codes "t/a") (codes "x" ++ 13 ∷ [])) ∷
    Malformed ∷
    Malformed ∷
    Malformed ∷
    Malformed ∷
    Malformed ∷
    Malformed ∷ []
unfolding icon_of is_type_name is_icon_name
icon_lines = refl

-- two malformed lines and a comment
abbrev icon_text : List ℕ
icon_text =
    join_with_byte 10 (codes "t/a:x" ∷ codes ":y" ∷ codes "t/a:" ∷ codes "# z" ∷ codes "t/b:c:d" ∷ [])

pub icon_text-icons : icons_in icon_text ≡ icon (codes "t/a") (codes "x") ∷ icon (codes "t/b") (codes "c:d") ∷ []
unfolding icon_of entries_by is_type_name is_icon_name
icon_text-icons = refl

pub icon_text-skipped : skipped_of is_malformed_icon icon_text ≡ 2 ∷ 3 ∷ []
unfolding icon_of skipped_of is_type_name is_icon_name
icon_text-skipped = refl
