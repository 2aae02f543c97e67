-- Bytes that are compared eight at a time: what vectors of them tell, and what is left after those that are equal.
use Rattle.std.proofs.Common.{◌≡◌, ℕ, zero, suc, ◌+◌, ◌%◌, ◌^◌, ◌<◌, ◌≤◌, ◌==◌, nat_eq, Bool, true, false, cond, not, List, [], ◌∷◌}
use Rattle.std.proofs.Common.{length, take, drop, map, replicate, refl, sym, ap, ◌∙◌, arith}
use Rattle.std.specs.List.{common_prefix_len, prefix_len}
use Rattle.std.specs.Simd.Lanes.{mask_l, top, zip2}
use Rattle.std.proofs.lemmas.List.Sums.{common_prefix_len-le}
use Rattle.std.proofs.lemmas.Simd.{leading_from_mask_l, length-zip2, mask_l-mod, trailing_mask_l}
use lib.Bits.{bit_or}
use lib.Count.{count_trailing_zeros}
use Rattle.mime_base.specs.Cache.Texts.{before_zero, shared}
use Rattle.mime_base.proofs.CacheLemmas.Prefixes.{longer}

-- what is left after bytes that are equal
pub common-passed : (n k : ℕ) (xs ys : List ℕ) → k ≡ common_prefix_len nat_eq (take n xs) (take n ys) →
    k + common_prefix_len nat_eq (drop k xs) (drop k ys) ≡ common_prefix_len nat_eq xs ys
common-passed n zero xs ys is = omega arith
common-passed zero (suc k) xs ys is = absurd (omega arith)
common-passed (suc n) (suc k) [] ys is = absurd (omega arith)
common-passed (suc n) (suc k) (x ∷ xs) [] is = absurd (omega arith)
common-passed (suc n) (suc k) (x ∷ xs) (y ∷ ys) is =
    let next = longer (x == y) _ k (sym is) in
    rw next.0 (omega (arith, common-passed n k xs ys (sym next.1)))

-- the lowest place of a mask

-- a map that changes nothing
map-same : (ms : List Bool) → map (λ m. m) ms ≡ ms
map-same [] = refl
map-same (m ∷ ms) = ap (λ ms. m ∷ ms) (map-same ms)

-- the lowest bit of a mask is its first lane
pub first-place : (ms : List Bool) (places : ℕ) → length ms ≤ 64 → places ≡ mask_l ms % 2 ^ 64 → 0 < places →
    count_trailing_zeros 64 places ≡ prefix_len (λ m. not m) ms
first-place ms places short is some =
    let whole : places ≡ mask_l (map (λ m. m) ms) = is ∙ mask_l-mod ms 64 short ∙ ap mask_l (sym (map-same ms)) in
    ap (count_trailing_zeros 64) whole ∙ trailing_mask_l (λ m. m) 64 ms short (omega (arith, whole, some))

-- no place in a mask of none
pub no-place : (ms : List Bool) (places : ℕ) → length ms ≤ 64 → places ≡ mask_l ms % 2 ^ 64 → places ≡ 0 →
    prefix_len (λ m. not m) ms ≡ length ms
no-place ms places short is none =
    leading_from_mask_l (λ m. m) ms (ap mask_l (map-same ms) ∙ sym (mask_l-mod ms 64 short) ∙ sym is ∙ none)

-- the first lane that differs ends the common front
lanes-common : (xs ys : List ℕ) → prefix_len (λ m. not m) (zip2 (λ a b. not (a == b)) xs ys) ≡ common_prefix_len nat_eq xs ys
lanes-common [] ys = refl
lanes-common (x ∷ xs) [] = refl
lanes-common (x ∷ xs) (y ∷ ys) = step (x == y) (lanes-common xs ys)
  where
    step : (test : Bool) →
        prefix_len (λ m. not m) (zip2 (λ a b. not (a == b)) xs ys) ≡ common_prefix_len nat_eq xs ys →
        cond (not (not test)) (1 + prefix_len (λ m. not m) (zip2 (λ a b. not (a == b)) xs ys)) 0
        ≡ cond test (1 + common_prefix_len nat_eq xs ys) 0
    step true h = omega (arith, h)
    step false h = refl

-- the lowest place of a vector whose lanes differ is that of the first byte that differs
pub common-found : (xs ys : List ℕ) (places : ℕ) → length xs ≡ 8 → length ys ≡ 8 →
    places ≡ mask_l (zip2 (λ a b. not (a == b)) xs ys) % 2 ^ 64 → 0 < places →
    (count_trailing_zeros 64 places ≡ common_prefix_len nat_eq xs ys) × (count_trailing_zeros 64 places ≤ 8)
common-found xs ys places long as_long is some =
    let size = length-zip2 (λ a b. not (a == b)) xs ys (long ∙ sym as_long) in
    let found = first-place (zip2 (λ a b. not (a == b)) xs ys) places (omega (arith, size, long)) is some ∙ lanes-common xs ys in
    (found, omega (arith, found, (common_prefix_len-le nat_eq xs ys).0, long))

-- whether each byte of two texts stops their comparison
abbrev pub stop_lanes : ℕ → List ℕ → List ℕ → List Bool
stop_lanes n xs ys = map (top 7)
    (zip2 bit_or (zip2 (λ a b. cond (not (a == b)) 255 0) xs ys) (zip2 (λ a b. cond (a == b) 255 0) xs (replicate n 0)))

-- the first lane that stops ends the shared bytes
lanes-shared : (n : ℕ) (xs ys : List ℕ) → length xs ≡ n → length ys ≡ n → prefix_len (λ m. not m) (stop_lanes n xs ys) ≡ shared xs ys
lanes-shared zero [] ys long as_long = refl
lanes-shared zero (x ∷ xs) ys long as_long = absurd (omega arith)
lanes-shared (suc n) [] ys long as_long = absurd (omega arith)
lanes-shared (suc n) (x ∷ xs) [] long as_long = absurd (omega arith)
lanes-shared (suc n) (x ∷ xs) (y ∷ ys) long as_long =
    step (x == y) (x == 0) refl (prefix_len (λ m. not m) (stop_lanes n xs ys)) (before_zero xs)
    (lanes-shared n xs ys (omega arith) (omega arith))
  where
    step : (same ends : Bool) → (x == y) ≡ same → (k : ℕ) (zs : List ℕ) → k ≡ common_prefix_len nat_eq zs ys →
        cond (not (top 7 (bit_or (cond (not same) 255 0) (cond ends 255 0)))) (1 + k) 0
        ≡ common_prefix_len nat_eq (cond ends [] (x ∷ zs)) (y ∷ ys)
    step true true e k zs h = refl
    step false true e k zs h = refl
    step true false e k zs h = rw e (omega (arith, h))
    step false false e k zs h = rw e refl

-- there is a lane for each byte
stop_lanes-length : (n : ℕ) (xs ys : List ℕ) → length xs ≡ n → length ys ≡ n → length (stop_lanes n xs ys) ≡ n
stop_lanes-length zero [] ys long as_long = refl
stop_lanes-length zero (x ∷ xs) ys long as_long = absurd (omega arith)
stop_lanes-length (suc n) [] ys long as_long = absurd (omega arith)
stop_lanes-length (suc n) (x ∷ xs) [] long as_long = absurd (omega arith)
stop_lanes-length (suc n) (x ∷ xs) (y ∷ ys) long as_long = ap suc (stop_lanes-length n xs ys (omega arith) (omega arith))

-- the lowest place where lanes differ or one is zero is that of the first byte that differs or is zero
pub shared-found : (n : ℕ) (xs ys : List ℕ) (places : ℕ) → n ≤ 64 → length xs ≡ n → length ys ≡ n →
    places ≡ mask_l (stop_lanes n xs ys) % 2 ^ 64 → 0 < places →
    (count_trailing_zeros 64 places ≡ shared xs ys) × (count_trailing_zeros 64 places ≤ n)
shared-found n xs ys places few long as_long is some =
    let size = stop_lanes-length n xs ys long as_long in
    let found = first-place (stop_lanes n xs ys) places (omega (arith, size, few)) is some ∙ lanes-shared n xs ys long as_long in
    (found, omega (arith, found, (common_prefix_len-le nat_eq (before_zero xs) ys).1, as_long))

-- where no lane stops, all bytes are equal and not zero
pub shared-all : (n : ℕ) (xs ys : List ℕ) (places : ℕ) → n ≤ 64 → length xs ≡ n → length ys ≡ n →
    places ≡ mask_l (stop_lanes n xs ys) % 2 ^ 64 → places ≡ 0 → n ≡ shared xs ys
shared-all n xs ys places few long as_long is none =
    let size = stop_lanes-length n xs ys long as_long in
    sym size ∙ sym (no-place (stop_lanes n xs ys) places (omega (arith, size, few)) is none) ∙ lanes-shared n xs ys long as_long
