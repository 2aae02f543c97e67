-- A list of a cache as it is written: its records are gathered while what they point to is written, and stand after that.
use Rattle.std.specs.Prelude.{◌≡◌, ℕ, ◌+◌, ◌*◌, List, [], ◌∷◌, ◌++◌, length, sum_by}
use Rattle.mime_base.specs.Format.Records.{Standing}
use Rattle.mime_store.specs.Written.{Grew, Written}

-- the numbers are records one after another, one for each member
abbrev pub RecordsIn : {X : Type 0} → (X → List ℕ → Type 0) → List ℕ → List X → Type 0
RecordsIn Is numbers [] = numbers ≡ []
RecordsIn Is numbers (x ∷ xs) =
    (row rest : List ℕ) × (numbers ≡ row ++ rest) × Is x row × RecordsIn Is rest xs

-- n numbers that are the record of a member, however much is written after what they point to
pub record IsRow {X : Type 0} (Is : Standing → X → List ℕ → Type 0) (n : ℕ) (c : List ℕ) (x : X) (row : List ℕ) : Type 0 where
  pub long : length row ≡ n
  pub stays : (d : List ℕ) (size : ℕ) → Grew c d size → Is (Written d) x row

-- what the members of a list take, each with its record of n numbers
abbrev pub list_room : {X : Type 0} → ℕ → (X → ℕ) → List X → ℕ
list_room n room xs = sum_by (λ x. 4 * n + room x) xs
