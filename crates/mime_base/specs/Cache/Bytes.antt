-- Numbers and values in the bytes of a cache, and the place where bytes stand.
use Rattle.std.specs.Prelude.{◌≡◌, ℕ, zero, suc, ◌+◌, ◌*◌, ◌^◌, ◌<◌, Bool, ◌&&◌, ◌||◌, ◌==◌, nat_le, if◌then◌else◌}
use Rattle.std.specs.Prelude.{List, [], ◌∷◌, ◌++◌, length, take, drop, slice_index}
use Rattle.std.specs.List.{flat_map}
use Rattle.byteorder.specs.Endian.{big_bytes, big_number}

-- a CARD32: a number of 32 bits in four bytes, the highest first
unfoldable pub card_bytes : ℕ → List ℕ
card_bytes n = big_bytes 4 n

-- CARD32s, one after another
abbrev pub cards : List ℕ → List ℕ
cards numbers = flat_map card_bytes numbers

-- numbers that a CARD32 holds
abbrev pub AreCards : List ℕ → Type 0
AreCards numbers = (i : ℕ) → slice_index numbers i < 2 ^ 32

-- these bytes stand in c at this offset
pub record Stands (c : List ℕ) (at : ℕ) (bytes : List ℕ) : Type 0 where
  pub front : List ℕ
  pub back : List ℕ
  pub place : length front ≡ at
  pub split : c ≡ front ++ (bytes ++ back)

-- the CARD32 i, counted from 0, of the record at `at`
unfoldable pub field : List ℕ → ℕ → ℕ → ℕ
field c at i = big_number 4 (drop (at + 4 * i) c)

-- n numbers of the record at `at`, from its number i on
abbrev pub fields_from : List ℕ → ℕ → ℕ → ℕ → List ℕ
fields_from c at i zero = []
fields_from c at i (suc n) = field c at i ∷ fields_from c at (suc i) n

-- the first n numbers of the record at `at`
abbrev pub fields : List ℕ → ℕ → ℕ → List ℕ
fields c at n = fields_from c at 0 n

-- that many bytes at `at`
abbrev pub value_at : List ℕ → ℕ → ℕ → List ℕ
value_at c at size = take size (drop at c)

-- whether that many bytes lie in c at `at`; no bytes lie at any offset
abbrev pub lies : List ℕ → ℕ → ℕ → Bool
lies c at size = size == 0 || nat_le (at + size) (length c)

-- the mask at `at`, where the offset 0 is no mask
abbrev pub optional_mask : List ℕ → ℕ → ℕ → List ℕ
optional_mask c at size = if at == 0 then [] else value_at c at size

-- whether a value lies in c, and its mask if it has one
abbrev pub both_lie : List ℕ → ℕ → ℕ → ℕ → Bool
both_lie c at mask size = lies c at size && (mask == 0 || lies c mask size)
