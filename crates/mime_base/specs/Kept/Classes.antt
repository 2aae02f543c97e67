-- The class of a pattern, by which the rules that are kept are chosen first.
use Rattle.std.specs.Prelude.{ℕ, ◌&&◌, ◌==◌, if◌then◌else◌, List, [], ◌∷◌}
use Rattle.mime_base.specs.Matching.Elements.{is_literal_text}
use Rattle.mime_base.specs.declared.kept.class.Class.{Class}
use Rattle.mime_base.specs.declared.kept.class.Class.TheVariants.{Literal, Suffix, Full}

-- Literal with no special byte, Suffix with a first `*` (42) and none after it, else Full
unfoldable pub class_of : List ℕ → Class
class_of [] = Literal
class_of (b ∷ rest) =
    if is_literal_text (b ∷ rest) then Literal else (if b == 42 && is_literal_text rest then Suffix else Full)
