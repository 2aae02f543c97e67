-- Places at which two bytes don't stand side by side, in the steps of a search.
use Rattle.std.proofs.Common.{◌≡◌, ℕ, zero, suc, ◌+◌, ◌-◌, ◌*◌, ◌%◌, ◌^◌, ◌<◌, ◌≤◌, ◌==◌, cond}
use Rattle.std.proofs.Common.{List, [], ◌∷◌, length, get_or, take, drop, bit_and, refl, sym, ap, ◌∙◌, arith, ⊎_elim}
use Rattle.std.specs.Int.{bit_at}
use Rattle.std.specs.Int.RustNames.{count_ones}
use Rattle.std.specs.List.{count_by}
use Rattle.std.proofs.Math.Seq.{take-add}
use Rattle.std.proofs.lemmas.Bool.{cases_lt, eq-eqb, ne_eqb}
use Rattle.std.proofs.lemmas.List.{get_or-drop, get_or-take, length-take-le, length-drop}
use Rattle.std.proofs.lemmas.List.Sums.{count_by-le-length, count_by_more_no, count_by_more_yes, sum_by-append}
use Rattle.std.proofs.lemmas.Nat.{ones_le_self}
use Rattle.std.proofs.lemmas.Nat.Bits.{bit_at-zero}
use Rattle.std.proofs.lemmas.Simd.{ones-mask_l}
use Rattle.mime_base.specs.Magic.Pairs.{PassesPairs}
use Rattle.mime_base.proofs.MagicLemmas.Lanes.{both_set, ones_before, place_set, places}

-- a front of a front
take-front : (k n : ℕ) (xs : List ℕ) → k ≤ n → take k (take n xs) ≡ take k xs
take-front zero n xs within = refl
take-front (suc k) zero xs within = absurd (omega arith)
take-front (suc k) (suc n) [] within = refl
take-front (suc k) (suc n) (x ∷ xs) within = ap (λ l. x ∷ l) (take-front k n xs (omega arith))

module _ (first second : ℕ) (bytes : List ℕ) where
  -- no place is skipped
  pub passes_none : PassesPairs first second bytes 0 0
  passes_none = record { none = λ i below. absurd (omega arith); counted = refl }

  -- the first byte stands at no more places than there are
  pub passes_few : (k n : ℕ) → k ≤ length bytes → PassesPairs first second bytes k n → n ≤ k
  passes_few k n within passed =
      omega (arith, passed.counted, count_by-le-length (λ b. b == first) (take k bytes), length-take-le k bytes within)

  -- a place without the first byte
  pub passes_other : (k n : ℕ) → k < length bytes → (get_or bytes k 0 ≡ first → ⊥) → PassesPairs first second bytes k n
      → PassesPairs first second bytes (k + 1) n
  passes_other k n within other passed = record {
    none = λ i below is_first is_second.
        ⊎_elim (λ before. passed.none i before is_first is_second)
        (λ at. other (ap (λ (j : ℕ). get_or bytes j 0) (omega arith) ∙ is_first)) (cases_lt i k);
    counted = passed.counted ∙ sym (count_by_more_no (λ b. b == first) bytes k 0 within (ne_eqb _ _ other));
  }

  -- a place with it, and without the second after it
  pub passes_first : (k n : ℕ) → k < length bytes → get_or bytes k 0 ≡ first → (get_or bytes (k + 1) 0 ≡ second → ⊥)
      → PassesPairs first second bytes k n → PassesPairs first second bytes (k + 1) (n + 1)
  passes_first k n within is other passed = record {
    none = λ i below is_first is_second.
        ⊎_elim (λ before. passed.none i before is_first is_second)
        (λ at. other (ap (λ (j : ℕ). get_or bytes j 0) (omega arith) ∙ is_second)) (cases_lt i k);
    counted = ap (λ (m : ℕ). m + 1) passed.counted
        ∙ sym (count_by_more_yes (λ b. b == first) bytes k 0 within (eq-eqb _ _ is));
  }

  -- places after those
  pub passes_then : (k n m o : ℕ) → k ≤ length bytes → PassesPairs first second bytes k n
      → PassesPairs first second (drop k bytes) m o → PassesPairs first second bytes (k + m) (n + o)
  passes_then k n m o within passed more = record {
    none = λ i below is_first is_second.
        ⊎_elim (λ before. passed.none i before is_first is_second)
        (λ after.
        let place : k + (i - k) ≡ i = omega arith in
        let next : k + (i - k + 1) ≡ i + 1 = omega arith in
        more.none (i - k) (omega arith)
        (get_or-drop k bytes (i - k) 0 ∙ ap (λ (j : ℕ). get_or bytes j 0) place ∙ is_first)
        (get_or-drop k bytes (i - k + 1) 0 ∙ ap (λ (j : ℕ). get_or bytes j 0) next ∙ is_second))
        (cases_lt i k);
    counted =
        let both = ap (count_by (λ b. b == first)) (take-add k m bytes)
        ∙ sum_by-append (λ b. cond (b == first) 1 0) (take k bytes) (take m (drop k bytes)) in
        omega (arith, both, passed.counted, more.counted);
  }

  -- lanes in which the first byte stands nowhere
  pub passes_lanes : (n : ℕ) → n ≤ length bytes → places first (take n bytes) ≡ 0 → PassesPairs first second bytes n 0
  passes_lanes n within nowhere =
      let size = length-take-le n bytes within in
      record {
        none = λ i below is_first is_second.
            let set = place_set first (take n bytes) i (omega (arith, size)) (get_or-take n bytes i 0 below ∙ is_first) in
            let clear = ap (λ (p : ℕ). bit_at p i) nowhere ∙ bit_at-zero i in
            absurd (omega (arith, set, clear));
        counted =
            let none = ap count_ones nowhere in
            omega (arith, none, ones_le_self 0, ones-mask_l (λ b. b == first) (take n bytes));
      }

  -- lanes of which the first ones have no pair
  module _ (n k : ℕ) (within : n < length bytes) (few : k ≤ n)
      (clear : (i : ℕ) → i < k → bit_at (bit_and (places first (take n bytes)) (places second (take n (drop 1 bytes)))) i ≡ 0) where
    no_pair : (i : ℕ) → i < k → get_or bytes i 0 ≡ first → get_or bytes (i + 1) 0 ≡ second → ⊥
    no_pair i below is_first is_second =
        let size = length-take-le n bytes (omega arith) in
        let next_size = length-take-le n (drop 1 bytes) (omega (arith, length-drop 1 bytes)) in
        let next : 1 + i ≡ i + 1 = omega arith in
        let set = both_set first second (take n bytes) (take n (drop 1 bytes)) i (omega (arith, size)) (omega (arith, next_size))
        (get_or-take n bytes i 0 (omega arith) ∙ is_first)
        (get_or-take n (drop 1 bytes) i 0 (omega arith) ∙ get_or-drop 1 bytes i 0 ∙ ap (λ (j : ℕ). get_or bytes j 0) next ∙ is_second) in
        omega (arith, set, clear i below)

    -- with those of the first byte before a place
    pub passes_front : k < 64 → PassesPairs first second bytes k (count_ones (bit_and (places first (take n bytes)) (1 * 2 ^ k % 2 ^ 64 - 1)))
    passes_front small = record {
      none = no_pair;
      counted = ones_before first k (take n bytes) small ∙ ap (count_by (λ b. b == first)) (take-front k n bytes few);
    }

    -- with all of them
    pub passes_block : k ≡ n → PassesPairs first second bytes k (count_ones (places first (take n bytes)))
    passes_block all = record {
      none = no_pair;
      counted = ones-mask_l (λ b. b == first) (take n bytes) ∙ ap (λ (m : ℕ). count_by (λ b. b == first) (take m bytes)) (sym all);
    }
