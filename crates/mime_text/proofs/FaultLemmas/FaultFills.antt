-- A value or a mask that is cut can be filled up.
use Rattle.std.proofs.Common.{◌≡◌, ℕ, zero, suc, ◌+◌, ◌-◌, ◌*◌, ◌<◌, ◌≤◌, List, [], ◌∷◌, ◌++◌, length, length-append, Some, None, refl, sym}
use Rattle.std.proofs.Common.{ap, arith}
use Rattle.std.proofs.lemmas.List.{append-nil}
use Rattle.mime_text.specs.Magic.FaultTable.{IsToStart, IsToValue}
use Rattle.mime_text.proofs.FaultLemmas.FaultLinesStay.{longer}
use Rattle.mime_text.proofs.FaultLemmas.FaultEnds.{LineEnds, extended, mask_ends}

-- that many zeros
zeros : ℕ → List ℕ
zeros zero = []
zeros (suc n) = 0 ∷ zeros n

-- there are that many zeros
length-zeros : (n : ℕ) → length (zeros n) ≡ n
unfolding zeros
length-zeros zero = refl
length-zeros (suc n) = ap (λ (k : ℕ). suc k) (length-zeros n)

-- fewer bytes can be filled up
filled : (n : ℕ) (cut : List ℕ) → length cut ≤ n → length (cut ++ zeros (n - length cut)) ≡ n
filled n cut less = omega (arith, length-append cut (zeros (n - length cut)), length-zeros (n - length cut))

-- a whole value ends so
value_ends : (limit : ℕ) (before : List ℕ) (high low : ℕ) (value : List ℕ) → IsToStart limit before → length value ≡ 256 * high + low
    → LineEnds limit (before ++ (high ∷ low ∷ value))
value_ends limit before high low value s e =
    let front : List ℕ = before ++ (high ∷ low ∷ value) in
    let v : IsToValue limit (256 * high + low) front =
    record { before = before; high = high; low = low; value = value; whole = refl; before_is = s; size_is = e; length_is = refl } in
    mask_ends limit (256 * high + low) front
    (record { before = front; mask = []; bytes = None; whole = sym (append-nil front); before_is = v; mask_is = refl })

-- so does one that is cut
pub value_fills : (limit : ℕ) (line before : List ℕ) (high low : ℕ) (cut : List ℕ) → line ≡ before ++ (high ∷ low ∷ cut)
    → IsToStart limit before → length cut ≤ 256 * high + low → LineEnds limit line
value_fills limit line before high low cut is s less =
    let pad : List ℕ = zeros (256 * high + low - length cut) in
    extended limit line pad (before ++ (high ∷ low ∷ (cut ++ pad))) (longer line before (high ∷ low ∷ cut) pad is)
    (value_ends limit before high low (cut ++ pad) s (filled (256 * high + low) cut less))

-- and a length that is cut
pub length_fills : (limit : ℕ) (line before cut : List ℕ) → line ≡ before ++ cut → IsToStart limit before → length cut < 2
    → LineEnds limit line
length_fills limit line before [] is s short =
    extended limit line (0 ∷ 0 ∷ []) (before ++ (0 ∷ 0 ∷ [])) (longer line before [] (0 ∷ 0 ∷ []) is)
    (value_ends limit before 0 0 [] s refl)
length_fills limit line before (b ∷ []) is s short =
    let pad : List ℕ = zeros (256 * b + 0) in
    extended limit line (0 ∷ pad) (before ++ (b ∷ 0 ∷ pad)) (longer line before (b ∷ []) (0 ∷ pad) is)
    (value_ends limit before b 0 pad s (length-zeros (256 * b + 0)))
length_fills limit line before (b ∷ c ∷ cut) is s short = absurd (omega (arith, short))

-- and a mask
pub mask_fills : (limit size : ℕ) (line before cut : List ℕ) → line ≡ before ++ 38 ∷ cut → IsToValue limit size before
    → length cut < size → LineEnds limit line
mask_fills limit size line before cut is v less =
    let pad : List ℕ = zeros (size - length cut) in
    let front : List ℕ = before ++ 38 ∷ (cut ++ pad) in
    extended limit line pad front (longer line before (38 ∷ cut) pad is)
    (mask_ends limit size front
    (record {
      before = before;
      mask = 38 ∷ (cut ++ pad);
      bytes = Some (cut ++ pad);
      whole = refl;
      before_is = v;
      mask_is = (refl, filled size cut (omega (arith, less)));
    }))
