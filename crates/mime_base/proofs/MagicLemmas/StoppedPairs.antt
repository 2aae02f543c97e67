-- Where a search for two bytes stops.
use Rattle.std.proofs.Common.{◌≡◌, ℕ, ◌+◌, ◌-◌, ◌^◌, ◌<◌, ◌≤◌, ◌==◌, List, length, get_or, map, take, drop, bit_and}
use Rattle.std.proofs.Common.{refl, sym, ap, ◌∙◌, arith, ⊎_elim, w32, w64}
use Rattle.std.specs.Int.{bit_at, trailing_zeros}
use Rattle.std.specs.List.{count_by}
use Rattle.std.proofs.lemmas.Bool.{cases_lt}
use Rattle.std.proofs.lemmas.List.{get_or-drop, get_or-take, length-drop, length-map, length-take-le}
use Rattle.std.proofs.lemmas.Nat.{and_le_l}
use Rattle.std.proofs.lemmas.Nat.Bits.{bit_at-trailing_zeros}
use Rattle.std.proofs.lemmas.Simd.{mask_l-lt}
use Rattle.mime_base.specs.Magic.Pairs.{PassesPairs, StopsAtPair}
use Rattle.mime_base.proofs.MagicLemmas.Lanes.{both_stand, lowest_set, places}

module _ (first second : ℕ) (bytes : List ℕ) where
  -- of lanes, the places at which both bytes stand
  abbrev pub pairs : ℕ → ℕ
  pairs n = bit_and (places first (take n bytes)) (places second (take n (drop 1 bytes)))

  -- both stand where the bit is set
  pub pair_stands : (n i : ℕ) → n < length bytes → i < n → bit_at (pairs n) i ≡ 1
      → (get_or bytes i 0 ≡ first) × (get_or bytes (i + 1) 0 ≡ second)
  pair_stands n i within below set =
      let size = length-take-le n bytes (omega arith) in
      let next_size = length-take-le n (drop 1 bytes) (omega (arith, length-drop 1 bytes)) in
      let next : i + 1 ≡ 1 + i = omega arith in
      let both = both_stand first second (take n bytes) (take n (drop 1 bytes)) i (omega (arith, size)) (omega (arith, next_size)) set in (
        sym (get_or-take n bytes i 0 below) ∙ both.0,
        ap (λ (j : ℕ). get_or bytes j 0) next ∙ sym (get_or-drop 1 bytes i 0) ∙ sym (get_or-take n (drop 1 bytes) i 0 below) ∙ both.1,
      )

  -- so they do at the lowest that is set, if it is among so many places
  pub stops_front : (n count k p : ℕ) → n < length bytes → count ≤ n → n ≤ 64 → p ≡ pairs n → p < 2 ^ 64
      → (k < count → k ≡ trailing_zeros w64 p) → StopsAtPair first second bytes count k
  stops_front n count k p within few many is small lowest = record {
    is_first = λ below. (both below).0;
    is_second = λ below. (both below).1;
  }
    where
      both : k < count → (get_or bytes k 0 ≡ first) × (get_or bytes (k + 1) 0 ≡ second)
      both below =
          let set = lowest_set p small (omega (arith, lowest below)) in
          pair_stands n k within (omega arith) (rw is at (rw (← lowest below) at set))

  -- lanes with such a bit are not passed
  pub pair_in_block : 32 < length bytes → 0 < pairs 32 → (firsts : ℕ) → PassesPairs first second bytes 32 firsts → ⊥
  pair_in_block within some firsts passed =
      let size = length-take-le 32 bytes (omega arith) in
      let lanes = length-map (take 32 bytes) (λ x. x == first) ∙ size in
      let bound = rw lanes at (mask_l-lt (map (λ x. x == first) (take 32 bytes))) in
      let fewer = and_le_l (places first (take 32 bytes)) (places second (take 32 (drop 1 bytes))) in
      let lowest = bit_at-trailing_zeros w32 (pairs 32) some (omega (arith, bound, fewer)) in
      let both = pair_stands 32 (trailing_zeros w32 (pairs 32)) within lowest.0 lowest.1 in
      passed.none (trailing_zeros w32 (pairs 32)) lowest.0 both.0 both.1

  -- where places are passed, so are fewer
  passes_fewer : (k n firsts : ℕ) → k ≤ n → PassesPairs first second bytes n firsts
      → PassesPairs first second bytes k (count_by (λ b. b == first) (take k bytes))
  passes_fewer k n firsts fewer passed = record { none = λ i below. passed.none i (omega arith); counted = refl }

-- what is left after blocks is searched up to a pair, or up to place 32, where no block with a pair is left
pub stops_then : (first second : ℕ) (bytes : List ℕ) (k m firsts count : ℕ) → m ≤ count - k
    → (k + 32 ≤ count → (n : ℕ) → PassesPairs first second (drop k bytes) 32 n → ⊥)
    → PassesPairs first second (drop k bytes) m firsts
    → (m < 32 → StopsAtPair first second (drop k bytes) (count - k) m) → StopsAtPair first second bytes count (k + m)
stops_then first second bytes k m firsts count limit block passed stops = record {
  is_first = λ below. sym (get_or-drop k bytes m 0) ∙ (here below).is_first (omega arith);
  is_second = λ below.
      let next : k + m + 1 ≡ k + (m + 1) = omega arith in
      ap (λ (j : ℕ). get_or bytes j 0) next ∙ sym (get_or-drop k bytes (m + 1) 0) ∙ (here below).is_second (omega arith);
}
  where
    here : k + m < count → StopsAtPair first second (drop k bytes) (count - k) m
    here below = ⊎_elim stops
        (λ many. absurd (block (omega arith) _ (passes_fewer first second (drop k bytes) 32 m firsts many passed))) (cases_lt m 32)
