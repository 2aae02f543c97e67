-- The aliases and the parents of a cache that were read back, and what is above a type by them.
use Rattle.std.specs.Prelude.{ℕ, List}
use Rattle.std.specs.Option.{option_map_or}
use Rattle.mime_base.specs.Database.{PlainDatabase, pairs_of}
use Rattle.mime_base.specs.Database.Subclass.{above}
use Rattle.mime_lookup.specs.NameMap.{IsNameMap, value_in}
use Rattle.mime_lookup.specs.Places.{IsAbove}
use Rattle.mime_lookup.specs.Spelling.{SpellsPairs}
use Rattle.mime_lookup.specs.declared.name_map.NameMap.{NameMap}
use Rattle.mime_lookup.specs.declared.places.Above.{Above}
use Rattle.mime_lookup.specs.declared.places.Above.TheVariants.{Nothing}

-- what a map has above a type, or nothing
abbrev pub step_in : NameMap Above → List ℕ → Above
step_in steps kind = option_map_or (λ step. step) (value_in steps kind) Nothing

-- a map has what is above each type
abbrev pub AreSteps : (List ℕ → List (List ℕ)) → NameMap Above → Type 0
AreSteps kinds steps = (kind : List ℕ) → IsAbove (kinds kind) (step_in steps kind)

-- Steps are those of the pairs that a cache spells.
pub record AreStepsOf (c : List ℕ) (steps : NameMap Above) : Type 0 where
  -- What the cache spells.
  pub database : PlainDatabase
  -- It does.
  pub spelled : SpellsPairs c database
  -- Its names are found.
  pub valid : IsNameMap steps
  -- The steps are what is above each type by its pairs.
  pub are : AreSteps (above (pairs_of database)) steps
