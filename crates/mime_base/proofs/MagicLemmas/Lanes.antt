-- The places of a byte as the bits of a number.
use Rattle.std.proofs.Common.{◌≡◌, ℕ, zero, suc, ◌+◌, ◌-◌, ◌*◌, ◌/◌, ◌%◌, ◌^◌, ◌<◌, ◌==◌, min, Bool, true, false, cond}
use Rattle.std.proofs.Common.{List, [], ◌∷◌, length, get_or, map, take, bit_and, refl, sym, ap, ap₂, ◌∙◌, arith, w64}
use Rattle.std.specs.Int.{bit_at, trailing_zeros}
use Rattle.std.specs.Int.Count.{trailing_of_zero}
use Rattle.std.specs.Int.RustNames.{count_ones}
use Rattle.std.specs.List.{count_by}
use Rattle.std.specs.Simd.Lanes.{mask_l}
use Rattle.std.proofs.Math.Arith.{mod-mul}
use Rattle.std.proofs.Math.Nat.{pow-suc}
use Rattle.std.proofs.lemmas.Bool.{eq-eqb, eqb-true}
use Rattle.std.proofs.lemmas.List.{get_or-map, take-map}
use Rattle.std.proofs.lemmas.Nat.{and_mask, one_shl, pow_pos}
use Rattle.std.proofs.lemmas.Nat.Bits.{bit_at-lt, bit_at-trailing_zeros, bit_at-zero, bit_at_and}
use Rattle.std.proofs.lemmas.Simd.{bit_mask_l, ones-mask_l}

-- the places of a byte, bit by bit
abbrev pub places : ℕ → List ℕ → ℕ
places b xs = mask_l (map (λ x. x == b) xs)

-- where the byte stands its bit is set
pub place_set : (b : ℕ) (xs : List ℕ) (i : ℕ) → i < length xs → get_or xs i 0 ≡ b → bit_at (places b xs) i ≡ 1
place_set b xs i below is =
    bit_mask_l (map (λ x. x == b) xs) i
    ∙ ap (λ (m : Bool). cond m 1 0) (get_or-map (λ x. x == b) xs i 0 false below ∙ eq-eqb (get_or xs i 0) b is)

-- where both stand, so is the bit that is set in both numbers
pub both_set : (b c : ℕ) (xs ys : List ℕ) (i : ℕ) → i < length xs → i < length ys → get_or xs i 0 ≡ b → get_or ys i 0 ≡ c
    → bit_at (bit_and (places b xs) (places c ys)) i ≡ 1
both_set b c xs ys i in_xs in_ys is_b is_c =
    let first = place_set b xs i in_xs is_b in
    let second = place_set c ys i in_ys is_c in
    bit_at_and (places b xs) (places c ys) i ∙ ap₂ (λ (m n : ℕ). min m n) first second

-- where its bit is set the byte stands
pub place_stands : (b : ℕ) (xs : List ℕ) (i : ℕ) → i < length xs → bit_at (places b xs) i ≡ 1 → get_or xs i 0 ≡ b
place_stands b xs i below set = is_test (get_or xs i 0 == b) refl
  where
    is_test : (test : Bool) → (get_or xs i 0 == b) ≡ test → get_or xs i 0 ≡ b
    is_test true e = eqb-true (get_or xs i 0) b e
    is_test false e =
        let lane = get_or-map (λ x. x == b) xs i 0 false below ∙ e in
        let clear = bit_mask_l (map (λ x. x == b) xs) i ∙ ap (λ (m : Bool). cond m 1 0) lane in
        absurd (omega (arith, set, clear))

-- where the bit is set in both numbers, so do both
pub both_stand : (b c : ℕ) (xs ys : List ℕ) (i : ℕ) → i < length xs → i < length ys
    → bit_at (bit_and (places b xs) (places c ys)) i ≡ 1 → (get_or xs i 0 ≡ b) × (get_or ys i 0 ≡ c)
both_stand b c xs ys i in_xs in_ys set =
    let least = sym (bit_at_and (places b xs) (places c ys) i) ∙ set in
    let few = bit_at-lt (places b xs) i in
    let few_too = bit_at-lt (places c ys) i in
    (place_stands b xs i in_xs (omega (arith, least, few, few_too)), place_stands c ys i in_ys (omega (arith, least, few, few_too)))

-- the lowest is set, if one is
pub lowest_set : (n : ℕ) → n < 2 ^ 64 → trailing_zeros w64 n < 64 → bit_at n (trailing_zeros w64 n) ≡ 1
lowest_set zero small below = absurd (omega (arith, trailing_of_zero 64))
lowest_set (suc n) small below = (bit_at-trailing_zeros w64 (suc n) (omega arith) small).1

-- no bit is set before the lowest
pub none_before : (n i : ℕ) → n < 2 ^ 64 → i < trailing_zeros w64 n → bit_at n i ≡ 0
none_before zero i small below = bit_at-zero i
none_before (suc n) i small below = (bit_at-trailing_zeros w64 (suc n) (omega arith) small).2 i below

-- a lane is one bit
one_bit : (m : Bool) → cond m 1 0 < 2
one_bit true = omega arith
one_bit false = omega arith

-- the low bits are those of the first lanes
low_bits : (k : ℕ) (ms : List Bool) → mask_l ms % 2 ^ k ≡ mask_l (take k ms)
low_bits zero ms = omega arith
low_bits (suc k) [] = omega arith
low_bits (suc k) (m ∷ ms) = next (cond m 1 0) (mask_l ms) (mask_l (take k ms)) (one_bit m) (low_bits k ms)
  where
    next : (c n rest : ℕ) → c < 2 → n % 2 ^ k ≡ rest → (c + 2 * n) % 2 ^ suc k ≡ c + 2 * rest
    next c n rest small is =
        let half : (c + 2 * n) / 2 ≡ n = omega arith in
        let low : (c + 2 * n) % 2 ≡ c = omega arith in
        ap (λ (d : ℕ). (c + 2 * n) % d) (pow-suc 2 k)
        ∙ mod-mul (c + 2 * n) {m = 2 ^ k} {c = 2} (pow_pos k) (omega arith)
        ∙ ap₂ (λ (i j : ℕ). i % 2 ^ k * 2 + j) half low ∙ omega (arith, is)

-- the lanes before a place, counted
pub ones_before : (b k : ℕ) (xs : List ℕ) → k < 64
    → count_ones (bit_and (places b xs) (1 * 2 ^ k % 2 ^ 64 - 1)) ≡ count_by (λ x. x == b) (take k xs)
ones_before b k xs below =
    ap (λ (n : ℕ). count_ones (bit_and (places b xs) (n - 1))) (one_shl k 64 below)
    ∙ ap count_ones (and_mask (places b xs) k ∙ low_bits k (map (λ x. x == b) xs) ∙ ap mask_l (take-map (λ x. x == b) k xs))
    ∙ ones-mask_l (λ x. x == b) (take k xs)
