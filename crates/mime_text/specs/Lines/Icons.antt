-- What the lines of icons and generic-icons spell.
use Rattle.std.specs.Prelude.{ℕ, ◌&&◌, ◌==◌, Bool, if◌then◌else◌, Option, Some, None, List}
use Rattle.std.specs.List.{after_first, before_first, list_any}
use Rattle.mime_base.specs.Names.{is_icon_name, is_type_name}
use Rattle.mime_base.specs.declared.database.icon.Icon.{Icon}
use Rattle.mime_text.specs.Lines.File.{entries_by, is_malformed, line_by}

-- whether the byte is a colon (58)
abbrev pub is_colon : ℕ → Bool
is_colon b = b == 58

-- the bytes before the first colon (58) and those after it, where there is one
abbrev pub at_colon : List ℕ → Option (List ℕ × List ℕ)
at_colon line =
    if list_any is_colon line then Some (before_first is_colon line, after_first is_colon line) else None

-- the icon that a type and a name spell
abbrev pub type_and_icon : Option (List ℕ × List ℕ) → Option Icon
type_and_icon None = None
type_and_icon (Some parts) =
    if is_type_name parts.0 && is_icon_name parts.1
    then Some (record { kind = parts.0; name = parts.1 }) else None

-- the icon that a line spells: type:name, where the name is all after the first colon
unfoldable pub icon_of : List ℕ → Option Icon
icon_of line = type_and_icon (at_colon line)

-- whether a line is malformed
abbrev pub is_malformed_icon : List ℕ → Bool
is_malformed_icon line = is_malformed (line_by icon_of line)

-- the icons of a text, in the order of their lines
abbrev pub icons_in : List ℕ → List Icon
icons_in text = entries_by icon_of text
