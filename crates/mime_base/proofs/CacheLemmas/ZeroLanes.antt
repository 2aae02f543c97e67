-- The first zero of bytes, by the lanes of a vector of them.
use Rattle.std.proofs.Common.{◌≡◌, ℕ, zero, suc, ◌+◌, ◌%◌, ◌^◌, ◌<◌, ◌≤◌, ◌==◌, min, Bool, true, false, cond, not, List, [], ◌∷◌}
use Rattle.std.proofs.Common.{length, take, drop, length-drop, replicate, refl, sym, ap, ◌∙◌, arith}
use Rattle.std.specs.List.{prefix_len}
use Rattle.std.specs.Simd.Lanes.{mask_l, zip2}
use Rattle.std.proofs.lemmas.List.{length-replicate}
use Rattle.std.proofs.lemmas.Simd.{length-zip2}
use lib.Count.{count_trailing_zeros}
use Rattle.mime_base.specs.Cache.Texts.{before_zero}
use Rattle.mime_base.proofs.CacheLemmas.Eights.{first-place, no-place}
use Rattle.mime_base.proofs.CacheLemmas.Zeros.{length-before_zero}

-- the lanes that are zero
abbrev zero_lanes : ℕ → List ℕ → List Bool
zero_lanes n xs = zip2 (λ a b. a == b) xs (replicate n 0)

-- before the first of them stand the bytes before the first zero
lanes-before : (n : ℕ) (xs : List ℕ) → length xs ≡ n → prefix_len (λ m. not m) (zero_lanes n xs) ≡ length (before_zero xs)
lanes-before zero [] long = refl
lanes-before zero (x ∷ xs) long = absurd (omega arith)
lanes-before (suc n) [] long = absurd (omega arith)
lanes-before (suc n) (x ∷ xs) long = step (x == 0) (lanes-before n xs (omega arith))
  where
    step : (ends : Bool) → prefix_len (λ m. not m) (zero_lanes n xs) ≡ length (before_zero xs) →
        cond (not ends) (1 + prefix_len (λ m. not m) (zero_lanes n xs)) 0 ≡ length (cond ends [] (x ∷ before_zero xs))
    step true h = refl
    step false h = omega (arith, h)

-- a zero among the first bytes is the first of all
before_zero-front : (n : ℕ) (bytes : List ℕ) → n ≤ length bytes → length (before_zero (take n bytes)) < n →
    before_zero bytes ≡ take (length (before_zero (take n bytes))) bytes
before_zero-front zero bytes within l = absurd (omega arith)
before_zero-front (suc n) [] within l = absurd (omega arith)
before_zero-front (suc n) (b ∷ bytes) within l = step (b == 0) (before_zero-front n bytes (omega arith)) l
  where
    step : (ends : Bool) →
        (length (before_zero (take n bytes)) < n → before_zero bytes ≡ take (length (before_zero (take n bytes))) bytes) →
        length (cond ends [] (b ∷ before_zero (take n bytes))) < suc n →
        cond ends [] (b ∷ before_zero bytes) ≡ take (length (cond ends [] (b ∷ before_zero (take n bytes)))) (b ∷ bytes)
    step true rest l = refl
    step false rest l = ap (λ xs. b ∷ xs) (rest (omega arith))

-- where the first bytes have none, it is found after them
before_zero-on : (n k m : ℕ) (bytes : List ℕ) → m ≡ n + k → n ≤ length (before_zero (take n bytes)) →
    before_zero (drop n bytes) ≡ take k (drop n bytes) → before_zero bytes ≡ take m bytes
before_zero-on zero k m bytes e all is = let same : k ≡ m = omega arith in is ∙ ap (λ (j : ℕ). take j bytes) same
before_zero-on (suc n) k m [] e all is = absurd (omega arith)
before_zero-on (suc n) k zero (b ∷ bytes) e all is = absurd (omega arith)
before_zero-on (suc n) k (suc m) (b ∷ bytes) e all is =
    step (b == 0) (λ l. before_zero-on n k m bytes (omega arith) l is) all
  where
    step : (ends : Bool) → (n ≤ length (before_zero (take n bytes)) → before_zero bytes ≡ take m bytes) →
        suc n ≤ length (cond ends [] (b ∷ before_zero (take n bytes))) → cond ends [] (b ∷ before_zero bytes) ≡ b ∷ take m bytes
    step true rest l = absurd (omega arith)
    step false rest l = ap (λ xs. b ∷ xs) (rest (omega arith))

-- the first zero, found in a window at the front
pub zero-window : (n k : ℕ) (bytes : List ℕ) → n ≤ length bytes → min n k ≡ length (before_zero (take n bytes)) → k < n →
    before_zero bytes ≡ take k bytes
zero-window n k bytes within is l =
    let place : length (before_zero (take n bytes)) ≡ k = omega arith in
    before_zero-front n bytes within (omega arith) ∙ ap (λ (j : ℕ). take j bytes) place

-- found in the window after that
pub zero-windows : (n m k : ℕ) (bytes : List ℕ) → n + n ≤ length bytes → min n m ≡ length (before_zero (take n bytes)) → n ≤ m →
    min n k ≡ length (before_zero (take n (drop n bytes))) → k < n → before_zero bytes ≡ take (n + k) bytes
zero-windows n m k bytes within none all is l =
    before_zero-on n k (n + k) bytes refl (omega arith)
    (zero-window n k (drop n bytes) (omega (arith, length-drop n bytes)) is l)

-- no place is lowest in no mask
lowest-none : (places : ℕ) → places ≡ 0 → count_trailing_zeros 64 places ≡ 64
unfolding count_trailing_zeros
lowest-none places is = ap (count_trailing_zeros 64) is

-- the lowest place of a vector whose lanes are zero is that of the first zero
pub zero-found : (n : ℕ) (bytes : List ℕ) (places : ℕ) → n ≤ 64 → length (take n bytes) ≡ n →
    places ≡ mask_l (zero_lanes n (take n bytes)) % 2 ^ 64 →
    min n (count_trailing_zeros 64 places) ≡ length (before_zero (take n bytes))
zero-found n bytes places few long is =
    let size = length-zip2 (λ a b. a == b) (take n bytes) (replicate n 0) (long ∙ sym (length-replicate n 0)) in
    let before = lanes-before n (take n bytes) long in
    let whole = no-place (zero_lanes n (take n bytes)) places (omega (arith, size, long)) is in
    let some = first-place (zero_lanes n (take n bytes)) places (omega (arith, size, long)) is in
    by places refl (λ e. whole e ∙ size ∙ long) some before
  where
    by : (m : ℕ) → places ≡ m → (places ≡ 0 → prefix_len (λ m. not m) (zero_lanes n (take n bytes)) ≡ n) →
        (0 < places → count_trailing_zeros 64 places ≡ prefix_len (λ m. not m) (zero_lanes n (take n bytes))) →
        prefix_len (λ m. not m) (zero_lanes n (take n bytes)) ≡ length (before_zero (take n bytes)) →
        min n (count_trailing_zeros 64 places) ≡ length (before_zero (take n bytes))
    by zero e whole some before = omega (arith, lowest-none places e, whole e, before)
    by (suc m) e whole some before = omega (arith, some (omega arith), before, length-before_zero (take n bytes))
