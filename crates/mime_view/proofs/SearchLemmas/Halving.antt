-- A range of records that is halved again and again is empty after 26 steps.
use Rattle.std.proofs.Common.{◌≡◌, ℕ, ◌+◌, ◌*◌, ◌^◌, ◌<◌, ◌≤◌, add-one, inl, inr, refl, arith}
use Rattle.std.proofs.lemmas.Bool.{cases_lt}
use Rattle.std.proofs.Math.Pow.{pow_mono}
use Rattle.std.proofs.Math.Nat.{mul-le-mul_left, mul-le-mul_right, pow-suc, mul_assoc}

-- how many records fit
pub count_small : (first size count n : ℕ) → 8 ≤ size → first + size * count ≤ n → n ≤ 268435456 → count ≤ 33554432
count_small first size count n large fits limit =
    let m : 8 * count ≤ size * count = mul-le-mul_right count large in
    omega arith

-- after p halvings
pub halved : (p d e n : ℕ) → 2 ^ p * d ≤ n → 2 * e ≤ d → 2 ^ (p + 1) * e ≤ n
halved p d e n h half =
    let m : 2 ^ p * (2 * e) ≤ 2 ^ p * d = mul-le-mul_left (2 ^ p) half in
    let s : 2 ^ (p + 1) * e ≡ 2 ^ p * (2 * e) = rw (add-one, pow-suc, mul_assoc) refl in
    omega arith

-- while one is left, there were at most 25 halvings
pub few : (p d n : ℕ) → 2 ^ p * d ≤ n → 0 < d → n ≤ 33554432 → p ≤ 25
few p d n h some small =
    elim (cases_lt p 26) [
      | inl l ↦ (omega arith)
      | inr g ↦
          let big : 2 ^ 26 ≤ 2 ^ p = pow_mono {i = 26} {j = p} g in
          let m : 2 ^ p * 1 ≤ 2 ^ p * d = mul-le-mul_left (2 ^ p) some in
          absurd (omega arith)
    ]
