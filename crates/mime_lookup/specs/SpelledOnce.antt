-- A cache spells the types of a name once.
use Rattle.std.specs.Prelude.{◌≡◌, ℕ, List}
use Rattle.mime_base.specs.Database.{PlainDatabase, pairs_of}
use Rattle.mime_lookup.specs.Choice.{candidates, kept}
use Rattle.mime_lookup.specs.Spelling.{SpellsGlobs}

-- whatever databases a cache spells, the types that are kept of a name are the same
abbrev pub KeptOnce : Type 0
KeptOnce = (c name : List ℕ) (b d : PlainDatabase) → SpellsGlobs c b → SpellsGlobs c d
    → kept (pairs_of b) b.rules name ≡ kept (pairs_of d) d.rules name

-- so are the types of all rules that match it
abbrev pub CandidatesOnce : Type 0
CandidatesOnce = (c name : List ℕ) (b d : PlainDatabase) → SpellsGlobs c b → SpellsGlobs c d
    → candidates (pairs_of b) b.rules name ≡ candidates (pairs_of d) d.rules name
