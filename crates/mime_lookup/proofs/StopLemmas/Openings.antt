-- A cache whose header stands is opened.
use Rattle.std.proofs.Common.{◌≡◌, ℕ, ◌*◌, ◌≤◌, List, [], ◌∷◌, length, length-append, get_or, refl, ap, arith}
use Rattle.mime_base.specs.Cache.Bytes.{Stands, card_bytes, cards}
use Rattle.mime_base.specs.Format.Header.{HeaderAt, Offsets, header_numbers}
use Rattle.mime_base.proofs.CacheLemmas.Numbers.{fields-standing, length-card_bytes}
use Rattle.mime_base.proofs.CacheLemmas.Standing.{Stands-inside}
use Rattle.mime_view.specs.Opening.{Opens}

-- that many numbers have four times as many bytes
length-cards : (numbers : List ℕ) → length (cards numbers) ≡ 4 * length numbers
length-cards [] = refl
length-cards (n ∷ numbers) =
    omega (arith, length-append (card_bytes n) (cards numbers), length-card_bytes n, length-cards numbers)

-- by its version, and 40 bytes
pub header_opens : (c : List ℕ) (offsets : Offsets) → HeaderAt (Stands c) offsets → length c ≤ 268435456 → Opens c
header_opens c offsets stand limit =
    let numbers = header_numbers offsets in
    record {
      header = omega (arith, Stands-inside c 0 (cards numbers) stand.stand, length-cards numbers);
      version_1_2 = ap (λ (ns : List ℕ). get_or ns 0 0) (fields-standing c 0 numbers stand.small stand.stand);
      limit = limit;
    }
