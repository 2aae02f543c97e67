-- The offsets of a header that stands are its numbers.
use Rattle.std.proofs.Common.{◌≡◌, ℕ, List, get_or, ap}
use Rattle.mime_base.specs.Cache.Bytes.{Stands, field, fields}
use Rattle.mime_base.specs.Format.Header.{HeaderAt, Offsets, header_numbers}
use Rattle.mime_view.proofs.ListLemmas.Records.{numbers_read}

-- the ten numbers of a header
pub header_read : (c : List ℕ) (offsets : Offsets) → HeaderAt (Stands c) offsets → fields c 0 10 ≡ header_numbers offsets
header_read c offsets stand = numbers_read c 0 (header_numbers offsets) stand

-- number i of a header
number : (c : List ℕ) (offsets : Offsets) (i : ℕ) → HeaderAt (Stands c) offsets
    → get_or (fields c 0 10) i 0 ≡ get_or (header_numbers offsets) i 0
number c offsets i stand = ap (λ (ns : List ℕ). get_or ns i 0) (header_read c offsets stand)

-- the offset of the alias list
pub aliases_read : (c : List ℕ) (offsets : Offsets) → HeaderAt (Stands c) offsets → field c 0 1 ≡ offsets.aliases
aliases_read c offsets stand = number c offsets 1 stand

-- the offset of the parent list
pub parents_read : (c : List ℕ) (offsets : Offsets) → HeaderAt (Stands c) offsets → field c 0 2 ≡ offsets.parents
parents_read c offsets stand = number c offsets 2 stand

-- the offset of the magic list
pub magic_read : (c : List ℕ) (offsets : Offsets) → HeaderAt (Stands c) offsets → field c 0 6 ≡ offsets.magic
magic_read c offsets stand = number c offsets 6 stand

-- the offset of the icon list
pub icons_read : (c : List ℕ) (offsets : Offsets) → HeaderAt (Stands c) offsets → field c 0 8 ≡ offsets.icons
icons_read c offsets stand = number c offsets 8 stand

-- the offset of the list of generic icons
pub generic_icons_read : (c : List ℕ) (offsets : Offsets) → HeaderAt (Stands c) offsets → field c 0 9 ≡ offsets.generic_icons
generic_icons_read c offsets stand = number c offsets 9 stand
