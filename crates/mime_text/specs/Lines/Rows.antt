-- Lines of texts, computed.
use Rattle.std.specs.Prelude.{◌≡◌, [], ◌∷◌, map, refl}
use Rattle.mime_text.specs.Lines.{lines}

-- a newline ends a line, and what stands after the last one is a line where it isn't empty
pub text_lines : map lines ([] ∷ (97 ∷ []) ∷ (97 ∷ 10 ∷ []) ∷ (10 ∷ []) ∷ (10 ∷ 97 ∷ 10 ∷ 10 ∷ 98 ∷ []) ∷ [])
    ≡ [] ∷ ((97 ∷ []) ∷ []) ∷ ((97 ∷ []) ∷ []) ∷ ([] ∷ []) ∷ ([] ∷ (97 ∷ []) ∷ [] ∷ (98 ∷ []) ∷ []) ∷ []
text_lines = refl
