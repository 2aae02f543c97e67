-- Lists of two names an entry, as they are read: aliases with their types, and types with their icons.
use Rattle.std.specs.Prelude.{◌≡◌, ◌⊎◌, ℕ, ◌+◌, ◌*◌, ◌≤◌, List, [], ◌∷◌, length, map, if◌then◌else◌, bytes_eq}
use Rattle.std.specs.Prelude.{Option, None, Some, IfSome, option_map, Result, Ok, IsOkAnd, MatchResult}
use Rattle.std.specs.Borrow.{Bor}
use Rattle.mime_base.specs.Cache.Bytes.{field}
use Rattle.mime_base.specs.Cache.Texts.{text_at}
use Rattle.mime_view.specs.Lists.{AreSorted, IsPairsFault, LiesList}
use Rattle.mime_view.specs.declared.fault.CacheFault.{CacheFault}

-- the second name of the first pair that begins with the key
abbrev pub looked_up : List (List ℕ × List ℕ) → List ℕ → Option (List ℕ)
looked_up [] key = None
looked_up (pair ∷ pairs) key = if bytes_eq pair.0 key then Some pair.1 else looked_up pairs key

-- the pairs stand one after another from `at` on, each as the offsets of its two names
abbrev pub ReadsPairEntries : List ℕ → ℕ → List (List ℕ × List ℕ) → Type 0
ReadsPairEntries c at [] = Unit {0}
ReadsPairEntries c at (pair ∷ pairs) =
    (text_at c (field c at 0) ≡ Ok pair.0) × (text_at c (field c at 1) ≡ Ok pair.1) × ReadsPairEntries c (at + 8) pairs

-- the list at `at` is of these pairs, sorted by their first names
pub record ReadsPairs (c : List ℕ) (at : ℕ) (pairs : List (List ℕ × List ℕ)) : Type 0 where
  pub count : field c at 0 ≡ length pairs
  pub inside : at + 4 + 8 * length pairs ≤ length c
  pub entries : ReadsPairEntries c (at + 4) pairs
  pub sorted : AreSorted (map (λ pair. pair.0) pairs)

-- What is given from the list at `at`, on any bytes.
pub record IsSecondName (c : List ℕ) (at : ℕ) (name : Option (Bor (List ℕ))) : Type 0 where
  -- The list lies in the cache.
  pub inside : LiesList c at 8
  -- What is given, if anything is, is a text of the cache.
  pub text : IfSome name (λ text. (place : ℕ) × (text_at c place ≡ Ok text.now))

-- what is looked up for a key among pairs that stand
abbrev pub LooksUp : List ℕ → List (List ℕ × List ℕ) → Result (Option (Bor (List ℕ))) CacheFault → Type 0
LooksUp key pairs result = IsOkAnd result (λ name. option_map (λ text. text.now) name ≡ looked_up pairs key)

-- on any bytes the list at `at` gives a second name, if it has one, or it or a text that it names does not stand
abbrev pub GivesSecondName : List ℕ → ℕ → Result (Option (Bor (List ℕ))) CacheFault → Type 0
GivesSecondName c at result = MatchResult result (IsSecondName c at) (IsPairsFault c at)

-- What an alias step gives for a name, by the list at `at`, on any bytes.
pub record IsUnaliased (c : List ℕ) (at : ℕ) (kind name : List ℕ) : Type 0 where
  -- The list lies in the cache.
  pub inside : LiesList c at 8
  -- It is the name itself, or a text of the cache.
  pub text : (name ≡ kind) ⊎ ((place : ℕ) × (text_at c place ≡ Ok name))

-- on any bytes an alias step gives the name or a text of the cache, or the list at `at` or a text that it names does not stand
abbrev pub GivesUnaliased : List ℕ → ℕ → List ℕ → Result (Bor (List ℕ)) CacheFault → Type 0
GivesUnaliased c at kind result = MatchResult result (λ name. IsUnaliased c at kind name.now) (IsPairsFault c at)
