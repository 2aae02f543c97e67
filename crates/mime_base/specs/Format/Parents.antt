-- The parent list of a cache: each type that has a parent, with all its parents.
use Rattle.std.specs.Prelude.{◌≡◌, ℕ, List, [], ◌∷◌, IsPermutation, bytes_eq, map}
use Rattle.std.specs.List.Sorted.{IsSortedBy}
use Rattle.std.specs.Set.{unique_keys}
use Rattle.mime_base.specs.Format.Records.{ListAt, Standing, TextAt}
use Rattle.mime_base.specs.Format.Sorted.{text_lt}
use Rattle.mime_base.specs.Database.Subclass.{parents}

-- the types that have a parent, each once
abbrev pub subclasses : List (List ℕ × List ℕ) → List (List ℕ)
subclasses pairs = unique_keys bytes_eq (map (λ pair. pair.0) pairs)

-- one number: the offset of the text
abbrev pub IsName : Standing → List ℕ → List ℕ → Type 0
IsName S text numbers = (at : ℕ) × (numbers ≡ at ∷ []) × TextAt S at text

-- two numbers: the offset of the type, and that of the list of its parents, in merged order
abbrev pub IsSubclass : Standing → List (List ℕ × List ℕ) → List ℕ → List ℕ → Type 0
IsSubclass S pairs kind numbers =
    (kind_at list : ℕ) × (numbers ≡ kind_at ∷ list ∷ []) × TextAt S kind_at kind
    × ListAt S 4 (IsName S) list (parents pairs kind)

-- the types that have a parent stand sorted
pub record ParentsAt (S : Standing) (at : ℕ) (pairs : List (List ℕ × List ℕ)) : Type 0 where
  pub kinds : List (List ℕ)
  pub permuted : IsPermutation (subclasses pairs) kinds
  pub in_order : IsSortedBy text_lt kinds
  pub stand : ListAt S 8 (IsSubclass S pairs) at kinds
