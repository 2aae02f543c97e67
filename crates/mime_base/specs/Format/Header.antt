-- The header of a cache: its version, and where each list begins.
use Rattle.std.specs.Prelude.{ℕ, List, [], ◌∷◌}
use Rattle.mime_base.specs.Format.Records.{CardsAt, Standing}

-- the offsets of the nine parts
pub record Offsets : Type 0 where
  pub aliases : ℕ
  pub parents : ℕ
  pub literals : ℕ
  pub tree : ℕ
  pub globs : ℕ
  pub magic : ℕ
  pub namespaces : ℕ
  pub icons : ℕ
  pub generic_icons : ℕ

-- 1 and 2 in 16 bits each, as one number of 32
abbrev pub version : ℕ
version = 65538

-- the numbers of a header: the version, and the offsets in their order
abbrev pub header_numbers : Offsets → List ℕ
header_numbers o =
    version ∷ o.aliases ∷ o.parents ∷ o.literals ∷ o.tree ∷ o.globs ∷ o.magic ∷ o.namespaces ∷ o.icons
    ∷ o.generic_icons ∷ []

-- the header stands at the beginning
abbrev pub HeaderAt : Standing → Offsets → Type 0
HeaderAt S offsets = CardsAt S 0 (header_numbers offsets)
