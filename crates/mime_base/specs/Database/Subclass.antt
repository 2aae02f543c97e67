-- Alias pairs, subclass pairs and the subclass rule. A type is its bytes.
use Rattle.std.specs.Prelude.{nat_eq, Bool, not, ◌&&◌, ◌||◌, if◌then◌else◌, IsTrue, ℕ, List, [], ◌∷◌, map, bytes_eq, Contains, codes}
use Rattle.std.specs.List.{starts_with}

-- the alias pairs (alias, type) and the subclass pairs (type, parent), in merged order
pub record Pairs : Type 0 where
  pub aliases : List (List ℕ × List ℕ)
  pub parents : List (List ℕ × List ℕ)

-- no alias pair and no subclass pair
abbrev pub no_pairs : Pairs
no_pairs = record { aliases = []; parents = [] }

-- a type after one alias step: the type of its alias pair, or the type itself
unfoldable pub resolved : List (List ℕ × List ℕ) → List ℕ → List ℕ
resolved [] kind = kind
resolved (pair ∷ pairs) kind = if bytes_eq pair.0 kind then pair.1 else resolved pairs kind

-- the parents of a type, in the order of the pairs
unfoldable pub parents : List (List ℕ × List ℕ) → List ℕ → List (List ℕ)
parents [] kind = []
parents (pair ∷ pairs) kind =
    if bytes_eq pair.0 kind then pair.1 ∷ parents pairs kind else parents pairs kind

-- the types one step above a type: its parents, each resolved
unfoldable pub above : Pairs → List ℕ → List (List ℕ)
above pairs kind = map (resolved pairs.aliases) (parents pairs.parents kind)

-- the same type, or text under text/plain, or anything but inode under application/octet-stream
unfoldable pub is_by_itself : List ℕ → List ℕ → Bool
is_by_itself kind base =
    bytes_eq kind base
    || (starts_with nat_eq kind (codes "text/") && bytes_eq base (codes "text/plain"))
    || (not (starts_with nat_eq kind (codes "inode/")) && bytes_eq base (codes "application/octet-stream"))

-- after a type these follow, each one step above the one before, and the last is the base by itself
abbrev pub IsPath : Pairs → List ℕ → List ℕ → List (List ℕ) → Type 0
IsPath pairs kind base [] = IsTrue (is_by_itself kind base)
IsPath pairs kind base (next ∷ path) = Contains (above pairs kind) next × IsPath pairs next base path

-- a type is another or a subclass of it: some path leads there
abbrev pub IsA : Pairs → List ℕ → List ℕ → Type 0
IsA pairs kind base = (path : List (List ℕ)) × IsPath pairs kind base path
