-- What a climb from a type towards a base says.
use Rattle.std.specs.Prelude.{◌↔◌, ℕ, IsTrue, List}
use Rattle.mime_base.specs.Database.Subclass.{IsA, Pairs}
use Rattle.mime_lookup.specs.declared.climb.Climbed.{Climbed}
use Rattle.mime_lookup.specs.declared.climb.Climbed.TheVariants.{Found, Open}

-- whether a type is the base or a subclass of it, or that it is if another is
abbrev pub IsClimbed : Pairs → List ℕ → List ℕ → Climbed → Type 0
IsClimbed pairs kind base (Found is) = IsTrue is ↔ IsA pairs kind base
IsClimbed pairs kind base (Open here) = IsA pairs kind base ↔ IsA pairs here.now base
