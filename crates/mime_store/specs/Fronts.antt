-- The first bytes of a path, with zeros for those that it lacks.
use Rattle.std.specs.Prelude.{ℕ, zero, suc, List, [], ◌∷◌}

-- the first n bytes, and zeros after the last
abbrev pub front : ℕ → List ℕ → List ℕ
front zero path = []
front (suc n) [] = 0 ∷ front n []
front (suc n) (b ∷ path) = b ∷ front n path
