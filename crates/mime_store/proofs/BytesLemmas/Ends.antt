-- The zeros after a text.
use Rattle.std.proofs.Common.{◌≡◌, ℕ, zero, suc, ◌+◌, ◌<◌, List, [], ◌∷◌, ◌++◌, length, take, ap, refl, arith}
use Rattle.std.specs.Prelude.{replicate}

-- of four zeros after a list, as many are kept as the end leaves
pub zeros_kept : (xs : List ℕ) (end count : ℕ) → count < 4 → end ≡ length xs + 1 + count
    → take end (xs ++ 0 ∷ 0 ∷ 0 ∷ 0 ∷ []) ≡ xs ++ 0 ∷ replicate count 0
zeros_kept [] end count few is = rw is (by_count count few)
  where
    by_count : (n : ℕ) → n < 4 → take {A = ℕ} (0 + 1 + n) (0 ∷ 0 ∷ 0 ∷ 0 ∷ []) ≡ 0 ∷ replicate n 0
    by_count zero h = refl
    by_count (suc zero) h = refl
    by_count (suc (suc zero)) h = refl
    by_count (suc (suc (suc zero))) h = refl
    by_count (suc (suc (suc (suc n)))) h = absurd (omega arith)
zeros_kept (x ∷ xs) zero count few is = absurd (omega arith)
zeros_kept (x ∷ xs) (suc end) count few is = ap (λ l. x ∷ l) (zeros_kept xs end count few (omega arith))
