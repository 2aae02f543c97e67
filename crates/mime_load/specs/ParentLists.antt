-- What is read back of a parent list.
use Rattle.std.specs.Prelude.{◌≡◌, ◌<◌, ◌-◌, ◌++◌, ℕ, true, All, List, [], ◌∷◌, length, get_or, map}
use Rattle.std.specs.List.{AllPairs, flat_map}
use Rattle.mime_base.specs.Cache.Bytes.{Stands}
use Rattle.mime_base.specs.Format.Parents.{IsName}
use Rattle.mime_base.specs.Format.Records.{CardsAt, ListAt, RecordsAt, TextAt}
use Rattle.mime_base.specs.Format.Runs.{IsRun, OfKind, PlainRun, second_text}
use Rattle.mime_base.specs.Format.Sorted.{text_lt}

-- The pairs of a type were added, of whose parents a list stands at `at`.
pub record AddsParents (c : List ℕ) (at : ℕ) (kind : List ℕ) (before after : List (List ℕ × List ℕ)) : Type 0 where
  pub added : List (List ℕ × List ℕ)
  pub whole : after ≡ before ++ added
  pub some : 0 < length added
  pub of_kind : OfKind kind added
  pub stand : ListAt (Stands c) 4 (IsName (Stands c)) at (map second_text added)

-- The pairs of the type of the entry at `at` were added.
pub record IsParentEntry (c : List ℕ) (at : ℕ) (kind : List ℕ) (before after : List (List ℕ × List ℕ)) : Type 0 where
  pub kind_at : ℕ
  pub list : ℕ
  pub cards : CardsAt (Stands c) at (kind_at ∷ list ∷ [])
  pub text : TextAt (Stands c) kind_at kind
  pub adds : AddsParents c list kind before after

-- The entry of a type and its parents stands at `at`.
pub record EntryStands (c : List ℕ) (at : ℕ) (kind : List ℕ) (targets : List (List ℕ)) : Type 0 where
  pub kind_at : ℕ
  pub list : ℕ
  pub cards : CardsAt (Stands c) at (kind_at ∷ list ∷ [])
  pub text : TextAt (Stands c) kind_at kind
  pub stand : ListAt (Stands c) 4 (IsName (Stands c)) list targets

-- The pairs of a type and i of its parents were added, whose records stand from `first` on.
pub record Adding (c : List ℕ) (first i : ℕ) (kind : List ℕ) (before after : List (List ℕ × List ℕ)) : Type 0 where
  pub added : List (List ℕ × List ℕ)
  pub whole : after ≡ before ++ added
  pub size : length added ≡ i
  pub of_kind : OfKind kind added
  pub stand : RecordsAt (Stands c) 4 (IsName (Stands c)) first (map second_text added)

-- a type and its pairs, as they are read: some, all of the type
pub record IsGood (run : PlainRun) : Type 0 where
  pub some : 0 < length run.1
  pub of_kind : OfKind run.0 run.1

-- the type comes before that of another
abbrev pub IsBefore : PlainRun → PlainRun → Type 0
IsBefore left right = text_lt left.0 right.0 ≡ true

-- i entries stand from `first` on, with these pairs; what comes after `previous` comes after their types
pub record Entries (c : List ℕ) (first i : ℕ) (previous : List ℕ) (pairs : List (List ℕ × List ℕ)) : Type 0 where
  pub runs : List PlainRun
  pub flat : pairs ≡ flat_map (λ (run : PlainRun). run.1) runs
  pub size : length runs ≡ i
  pub good : All IsGood runs
  pub before : AllPairs IsBefore runs
  pub last : All (λ (run : PlainRun). (kind : List ℕ) → text_lt previous kind ≡ true → text_lt run.0 kind ≡ true) runs
  pub previous_is : (d : PlainRun) → 0 < length runs → (get_or runs (length runs - 1) d).0 ≡ previous
  pub stand : RecordsAt (Stands c) 8 (IsRun (Stands c)) first runs
