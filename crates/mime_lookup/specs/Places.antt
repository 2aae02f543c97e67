-- Where pairs stand: the first place of each name, and after each place the next of the same name.
use Rattle.std.specs.Prelude.{◌≡◌, ℕ, ◌+◌, ◌<◌, ◌≤◌, List, [], ◌∷◌, length, get_or, drop, Option, None, Some}
use Rattle.mime_base.specs.Database.PlainPairs.{plain_pairs}
use Rattle.mime_base.specs.Database.Subclass.{Pairs, parents}
use Rattle.mime_base.specs.declared.database.pair.Pair.{Pair}
use Rattle.mime_lookup.specs.NameMap.{IsNameMap, value_in}
use Rattle.mime_lookup.specs.declared.places.Above.{Above}
use Rattle.mime_lookup.specs.declared.places.Above.TheVariants.{Nothing, One, Several}
use Rattle.mime_lookup.specs.declared.places.PlacedPairs.{PlacedPairs}
use Rattle.mime_lookup.specs.declared.places.Places.{Places}

-- the pairs of two lists
abbrev pub pairs_at : List Pair → List Pair → Pairs
pairs_at alias_pairs parent_pairs = record { aliases = plain_pairs alias_pairs; parents = plain_pairs parent_pairs }

-- of the pairs from `low` on the first of a name stands here, or there is none
abbrev pub IsNextPlace : List Pair → List ℕ → ℕ → Option ℕ → Type 0
IsNextPlace pairs name low None = parents (plain_pairs (drop low pairs)) name ≡ []
IsNextPlace pairs name low (Some place) =
    (low ≤ place) × (place < length pairs)
    × (parents (plain_pairs (drop low pairs)) name ≡ parents (plain_pairs (drop place pairs)) name)
    × ((pair : Pair) → pair ≡ get_or pairs place pair → pair.name ≡ name)

-- the pairs from `low` on: the first place of each name, and from the last place to the first the next place of its name
pub record IsIndexed (pairs : List Pair) (low : ℕ) (first : List ℕ → Option ℕ) (next : List (Option ℕ)) : Type 0 where
  pub size : length next + low ≡ length pairs
  pub firsts : (name : List ℕ) → IsNextPlace pairs name low (first name)
  pub nexts :
      (place k : ℕ) (pair : Pair) → low ≤ place → k + (place + 1) ≡ length pairs → pair ≡ get_or pairs place pair →
      IsNextPlace pairs pair.name (place + 1) (get_or next k None)

-- What is kept of some pairs is the places of all of them.
pub record IsPlaced (places : Places) : Type 0 where
  pub valid : IsNameMap places.first
  pub indexed : IsIndexed places.pairs.now 0 (value_in places.first) places.next.items

-- What is kept of both lists of pairs is the places of all of them.
pub record ArePlaced (both : PlacedPairs) : Type 0 where
  pub aliases : IsPlaced both.aliases
  pub parents : IsPlaced both.parents

-- the pairs whose places are kept
abbrev pub placed : PlacedPairs → Pairs
placed both = pairs_at both.aliases.pairs.now both.parents.pairs.now

-- what is one step above a type: nothing, one type, or several
abbrev pub IsAbove : List (List ℕ) → Above → Type 0
IsAbove kinds Nothing = kinds ≡ []
IsAbove kinds (One kind) = kinds ≡ kind.now ∷ []
IsAbove kinds Several = Unit {0}
