-- Bytes under a mask, byte by byte.
use Rattle.std.proofs.Common.{◌≡◌, ℕ, zero, suc, ◌<◌, List, [], ◌∷◌, length, get_or, bit_and, refl, ap, ◌∙◌, arith}
use Rattle.mime_base.specs.Magic.Masking.{group_of, in_host_order, under_mask, mask_over, masked}
use Rattle.mime_base.specs.Magic.Mirrored.{mirrored}
use Rattle.mime_base.specs.declared.magic.host.Host.{Host}
use Rattle.mime_base.proofs.MagicLemmas.Mirroring.{mirrors}

-- a mask leaves the length as it is
length-masked : (bytes mask : List ℕ) → length (masked bytes mask) ≡ length bytes
length-masked [] mask = refl
length-masked (b ∷ bytes) [] = refl
length-masked (b ∷ bytes) (m ∷ mask) = ap suc (length-masked bytes mask)

-- the byte at a place under the mask
get_or-masked : (bytes mask : List ℕ) (i : ℕ) → i < length bytes → i < length mask
    → get_or (masked bytes mask) i 0 ≡ bit_and (get_or bytes i 0) (get_or mask i 255)
get_or-masked [] mask i below in_mask = absurd (omega arith)
get_or-masked (b ∷ bytes) [] i below in_mask = absurd (omega arith)
get_or-masked (b ∷ bytes) (m ∷ mask) zero below in_mask = refl
get_or-masked (b ∷ bytes) (m ∷ mask) (suc i) below in_mask = get_or-masked bytes mask i (omega arith) (omega arith)

-- a mask over a value is as long as the value
length-mask_over : (value mask : List ℕ) → length (mask_over value mask) ≡ length value
length-mask_over [] mask = refl
length-mask_over (v ∷ value) [] = ap suc (length-mask_over value [])
length-mask_over (v ∷ value) (m ∷ mask) = ap suc (length-mask_over value mask)

-- it has the mask's bits at each place of the value
get_or-mask_over : (value mask : List ℕ) (i : ℕ) → i < length value
    → get_or (mask_over value mask) i 255 ≡ get_or mask i 255
get_or-mask_over [] mask i below = absurd (omega arith)
get_or-mask_over (v ∷ value) [] zero below = refl
get_or-mask_over (v ∷ value) [] (suc i) below = get_or-mask_over value [] i (omega arith)
get_or-mask_over (v ∷ value) (m ∷ mask) zero below = refl
get_or-mask_over (v ∷ value) (m ∷ mask) (suc i) below = get_or-mask_over value mask i (omega arith)

-- where a byte of the value stood before its groups were reversed
abbrev pub place : List ℕ → ℕ → Host → ℕ → ℕ
place value word host i = mirrored (group_of word host (length value)) i

-- a byte of what is as long as the value, under its mask
module _ (value mask : List ℕ) (word : ℕ) (host : Host) where
  -- the eight bits of a byte
  abbrev pub bits : ℕ → ℕ
  bits i = get_or mask (place value word host i) 255

  -- a mask leaves the length
  pub length-under_mask : (bytes : List ℕ) → length (under_mask value mask word host bytes) ≡ length bytes
  length-under_mask bytes = length-masked bytes (in_host_order word host (mask_over value mask))

  -- and of each byte the bits that it has
  pub get_or-under_mask : (bytes : List ℕ) (i : ℕ) → length bytes ≡ length value → i < length value
      → get_or (under_mask value mask word host bytes) i 0 ≡ bit_and (get_or bytes i 0) (bits i)
  get_or-under_mask bytes i same below =
      let over = mask_over value mask in
      let size = length-mask_over value mask in
      let moves = mirrors word host over in
      let inside : i < length over = omega arith in
      let here = get_or-masked bytes (in_host_order word host over) i (omega arith) (omega (arith, moves.size)) in
      let there : get_or (in_host_order word host over) i 255 ≡ get_or over (place value word host i) 255 =
      moves.moved i 255 inside ∙ ap (λ (n : ℕ). get_or over (mirrored (group_of word host n) i) 255) size in
      let kept_bits = get_or-mask_over value mask (place value word host i) ((mirrors word host value).within i below) in
      here ∙ ap (bit_and (get_or bytes i 0)) (there ∙ kept_bits)
