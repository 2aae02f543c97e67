-- The magic list of a cache is determined by its bytes.
use Rattle.std.proofs.Common.{◌≡◌, List, ℕ, ap, refl, slice_index, subst}
use Rattle.mime_base.specs.Format.Header.{header_numbers}
use Rattle.mime_base.specs.Magic.{PlainSection}
use Rattle.mime_load.specs.MagicStanding.{HasMagic, MagicStands}
use Rattle.mime_load.proofs.SameLemmas.{same_numbers}
use Rattle.mime_load.proofs.WholeLemmas.{same_magic}

-- a cache has one magic list
pub one_magic : (c : List ℕ) (xs ys : List PlainSection) → HasMagic c xs → HasMagic c ys → xs ≡ ys
one_magic c xs ys one other =
    let same = same_numbers c 0 (header_numbers one.offsets) (header_numbers other.offsets) refl one.header other.header in
    let at : one.offsets.magic ≡ other.offsets.magic = ap (λ (numbers : List ℕ). slice_index numbers 6) same in
    same_magic c other.offsets.magic xs ys (subst (λ (n : ℕ). MagicStands c n xs) at one.magic) other.magic
