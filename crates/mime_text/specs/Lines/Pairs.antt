-- What the lines of aliases and subclasses spell.
use Rattle.std.specs.Prelude.{ℕ, ◌&&◌, Bool, if◌then◌else◌, Option, Some, None, List, [], ◌∷◌}
use Rattle.mime_base.specs.Names.{is_type_name}
use Rattle.mime_base.specs.declared.database.pair.Pair.{Pair}
use Rattle.mime_text.specs.Lines.{line_fields}
use Rattle.mime_text.specs.Lines.File.{entries_by, is_malformed, line_by}

-- the pair that the fields of a line spell: just two, both of them types
abbrev pub two_types : List (List ℕ) → Option Pair
two_types (name ∷ target ∷ []) =
    if is_type_name name && is_type_name target
    then Some (record { name = name; target = target }) else None
two_types _ = None

-- the pair that a line spells: two types with one space (32) between them
unfoldable pub pair_of : List ℕ → Option Pair
pair_of line = two_types (line_fields 32 line)

-- whether a line is malformed
abbrev pub is_malformed_pair : List ℕ → Bool
is_malformed_pair line = is_malformed (line_by pair_of line)

-- the pairs of a text, in the order of their lines
abbrev pub pairs_in : List ℕ → List Pair
pairs_in text = entries_by pair_of text
