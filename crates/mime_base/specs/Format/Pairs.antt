-- Lists of pairs of texts in a cache: aliases with their types, types with the names of their icons.
use Rattle.std.specs.Prelude.{◌≡◌, ℕ, List, [], ◌∷◌}
use Rattle.mime_base.specs.Format.Records.{ListAt, Standing, TextAt}
use Rattle.mime_base.specs.Format.Sorted.{IsSortedByText}

-- two numbers: the offset of the first text, and that of the second
abbrev pub IsPair : Standing → (List ℕ × List ℕ) → List ℕ → Type 0
IsPair S pair numbers =
    (first second : ℕ) × (numbers ≡ first ∷ second ∷ []) × TextAt S first pair.0 × TextAt S second pair.1

-- the pairs stand sorted by their first texts
pub record PairsAt (S : Standing) (at : ℕ) (pairs : List (List ℕ × List ℕ)) : Type 0 where
  pub entries : List (List ℕ × List ℕ)
  pub sorted : IsSortedByText (λ pair. pair.0) pairs entries
  pub stand : ListAt S 8 (IsPair S) at entries
