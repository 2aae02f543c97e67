-- Fields that are to be names.
use Rattle.std.specs.Prelude.{ℕ, Bool, if◌then◌else◌, Option, Some, None, List}

-- the field where it keeps the limits of a name
abbrev pub name_by : (List ℕ → Bool) → List ℕ → Option (List ℕ)
name_by limits field = if limits field then Some field else None
