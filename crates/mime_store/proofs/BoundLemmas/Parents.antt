-- A parent list takes no more than its pairs one by one.
use Rattle.std.proofs.Common.{◌≡◌, ℕ, ◌+◌, ◌≤◌, List, [], ◌∷◌, map, sum_by, arith, refl}
use Rattle.std.proofs.lemmas.List.Sums.{sum_by-cons}
use Rattle.mime_base.specs.Format.Room.{parents_room, text_room}
use Rattle.mime_base.specs.Format.Runs.{first_text}
use Rattle.mime_store.proofs.BoundLemmas.Fewer.{unique-sum}

-- what a pair takes with an entry and a text for its type
abbrev one_by_one : List ℕ × List ℕ → ℕ
one_by_one pair = 16 + (text_room pair.0 + text_room pair.1)

-- what a type takes: its place in the list, its count and its text
abbrev of_kind : List ℕ → ℕ
of_kind kind = 12 + text_room kind

-- what a parent takes: its place in the list, and its text
abbrev of_parent : List ℕ × List ℕ → ℕ
of_parent pair = 4 + text_room pair.1

-- pairs one by one are their types and their parents
one_by_one-parts : (pairs : List (List ℕ × List ℕ))
    → sum_by one_by_one pairs ≡ sum_by of_kind (map first_text pairs) + sum_by of_parent pairs
one_by_one-parts [] = refl
one_by_one-parts (pair ∷ pairs) =
    omega (
      arith,
      one_by_one-parts pairs,
      sum_by-cons one_by_one pair pairs,
      sum_by-cons of_parent pair pairs,
      sum_by-cons of_kind pair.0 (map first_text pairs),
    )

-- a type that stands in more than one pair has one entry
pub parents_room-bounded : (pairs : List (List ℕ × List ℕ)) → parents_room pairs ≤ sum_by one_by_one pairs
parents_room-bounded pairs = omega (arith, one_by_one-parts pairs, unique-sum of_kind (map first_text pairs))
