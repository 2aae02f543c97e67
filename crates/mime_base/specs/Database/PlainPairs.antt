-- Pairs of names as plain values: of `aliases`, `subclasses` and the icon files.
use Rattle.std.specs.Prelude.{ℕ, Bool, true, not, ◌&&◌, List, [], ◌∷◌, map, bytes_eq}
use Rattle.std.specs.List.{list_any}
use Rattle.mime_base.specs.declared.database.icon.Icon.{Icon}
use Rattle.mime_base.specs.declared.database.pair.Pair.{Pair}

-- an alias and its type, or a type and its parent
abbrev pub plain_pair : Pair → List ℕ × List ℕ
plain_pair pair = (pair.name, pair.target)

-- pairs, in their order
abbrev pub plain_pairs : List Pair → List (List ℕ × List ℕ)
plain_pairs pairs = map plain_pair pairs

-- a type and the name of its icon
abbrev pub plain_icon : Icon → List ℕ × List ℕ
plain_icon icon = (icon.kind, icon.name)

-- icons, in their order
abbrev pub plain_icons : List Icon → List (List ℕ × List ℕ)
plain_icons icons = map plain_icon icons

-- the two pairs are one
abbrev pub is_same_pair : (List ℕ × List ℕ) → (List ℕ × List ℕ) → Bool
is_same_pair left right = bytes_eq left.0 right.0 && bytes_eq left.1 right.1

-- whether no two pairs begin with the same name
abbrev pub have_distinct_names : List (List ℕ × List ℕ) → Bool
have_distinct_names [] = true
have_distinct_names (pair ∷ pairs) =
    not (list_any (λ other. bytes_eq pair.0 other.0) pairs) && have_distinct_names pairs

-- whether no pair stands twice
abbrev pub are_distinct_pairs : List (List ℕ × List ℕ) → Bool
are_distinct_pairs [] = true
are_distinct_pairs (pair ∷ pairs) = not (list_any (is_same_pair pair) pairs) && are_distinct_pairs pairs
