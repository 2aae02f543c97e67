-- What a cache has to be to be opened.
use Rattle.std.specs.Prelude.{◌≡◌, ◌≢◌, ℕ, ◌+◌, ◌*◌, ◌<◌, ◌≤◌, List, length}
use Rattle.mime_base.specs.Cache.Bytes.{field}
use Rattle.mime_view.specs.declared.fault.CacheFault.{CacheFault}
use Rattle.mime_view.specs.declared.fault.CacheFault.TheVariants.{Truncated, Version, TooLarge}

-- the first number of a cache of this version: 16 bits of the major number, and 16 of the minor
abbrev pub version_number : ℕ → ℕ → ℕ
version_number major minor = 65536 * major + minor

-- a whole header, version 1.2, and not too many bytes
pub record Opens (c : List ℕ) : Type 0 where
  pub header : 40 ≤ length c
  pub version_1_2 : field c 0 0 ≡ version_number 1 2
  pub limit : length c ≤ 268435456

-- the first of the three that does not hold
abbrev pub IsOpenFault : List ℕ → CacheFault → Type 0
IsOpenFault c Truncated = length c < 40
IsOpenFault c (Version major minor) =
    (40 ≤ length c) × (field c 0 0 ≡ version_number major minor) × (minor < 65536) × (field c 0 0 ≢ version_number 1 2)
IsOpenFault c TooLarge = (40 ≤ length c) × (field c 0 0 ≡ version_number 1 2) × (268435456 < length c)
IsOpenFault c _ = ⊥
