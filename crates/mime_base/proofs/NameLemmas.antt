-- Bytes of a name, sixteen at a time: what vectors of them tell, and what is left after those.
use Rattle.std.proofs.Common.{◌≡◌, ℕ, zero, suc, ◌+◌, ◌-◌, ◌*◌, ◌==◌, ◌≤◌, leb, Bool, true, false, cond, not, ◌&&◌, List, [], ◌∷◌}
use Rattle.std.proofs.Common.{length, take, drop, map, replicate, refl, sym, ap, ◌∙◌, arith, ⊎_elim, drop-drop}
use Rattle.std.specs.Prelude.{nat_lt}
use Rattle.std.specs.List.{list_all}
use Rattle.std.specs.Simd.Lanes.{mask_l, top, zip2}
use Rattle.std.proofs.lemmas.Bool.Decides.{eqb_tells, leb_tells}
use Rattle.std.proofs.lemmas.List.{take-append-drop}
use Rattle.std.proofs.lemmas.List.Folds.{list_all-append}
use lib.Bits.{bit_or}
use Rattle.mime_base.specs.Names.{is_name_byte}

-- all bytes are those of a name where the first ones are, and those after them
pub names-passed : (n : ℕ) (xs : List ℕ) →
    list_all is_name_byte xs ≡ (list_all is_name_byte (take n xs) && list_all is_name_byte (drop n xs))
names-passed n xs = ap (list_all is_name_byte) (sym (take-append-drop n xs)) ∙ list_all-append is_name_byte (take n xs) (drop n xs)

-- of two facts joined, of which the second is one more joined with a third, where the third alone tells them all
overlap : (whole later first second both : Bool) → whole ≡ (first && both) → both ≡ (second && later) → later ≡ whole → both ≡ whole
overlap whole later first second true w b same = third second b
  where
    third : (second : Bool) → true ≡ (second && later) → true ≡ whole
    third true b = b ∙ same
    third false b = cc
overlap whole later first second false w b same = sym (w ∙ none first)
  where
    none : (first : Bool) → (first && false) ≡ false
    none true = refl
    none false = refl

-- all bytes from a place on are those of a name exactly where all are, if that is so of a later place
pub names-overlap : (m n : ℕ) (xs : List ℕ) → m ≤ n → list_all is_name_byte (drop n xs) ≡ list_all is_name_byte xs →
    list_all is_name_byte (drop m xs) ≡ list_all is_name_byte xs
names-overlap m n xs le same =
    let place : m + (n - m) ≡ n = omega arith in
    let later : drop (n - m) (drop m xs) ≡ drop n xs = drop-drop (n - m) m xs ∙ ap (λ k. drop k xs) place in
    overlap _ _ _ _ _ (names-passed m xs)
    (names-passed (n - m) (drop m xs) ∙ ap (λ l. list_all is_name_byte (take (n - m) (drop m xs)) && list_all is_name_byte l) later) same

-- the lanes that are at most a space (32), or a colon (58)
abbrev pub wrong_lanes : ℕ → List ℕ → List Bool
wrong_lanes n xs = map (top 7)
    (zip2 bit_or (zip2 (λ a b. cond (leb a b) 255 0) xs (replicate n 32)) (zip2 (λ a b. cond (a == b) 255 0) xs (replicate n 58)))

-- there is a lane for each byte
pub wrong_lanes-length : (n : ℕ) (xs : List ℕ) → length xs ≡ n → length (wrong_lanes n xs) ≡ n
wrong_lanes-length zero [] long = refl
wrong_lanes-length zero (x ∷ xs) long = absurd (omega arith)
wrong_lanes-length (suc n) [] long = absurd (omega arith)
wrong_lanes-length (suc n) (x ∷ xs) long = ap suc (wrong_lanes-length n xs (omega arith))

-- above the space is not at most the space
above : (x : ℕ) → nat_lt 32 x ≡ not (leb x 32)
above x = ⊎_elim
    (λ low. ⊎_elim (λ high. absurd (omega (arith, low.1, high.1))) (λ high. high.0 ∙ sym (ap not low.0)) (leb_tells 33 x))
    (λ low. ⊎_elim (λ high. high.0 ∙ sym (ap not low.0)) (λ high. absurd (omega (arith, low.1, high.1))) (leb_tells 33 x))
    (leb_tells x 32)

-- a mask whose lowest bit is set is not zero
pub odd : (k : ℕ) → (1 + 2 * k == 0) ≡ false
odd k = ⊎_elim (λ is. absurd (omega (arith, is.1))) (λ is. is.0) (eqb_tells (1 + 2 * k) 0)

-- and else it is zero where the others are
pub even : (k : ℕ) → (0 + 2 * k == 0) ≡ (k == 0)
even k = ⊎_elim
    (λ is. ⊎_elim (λ own. is.0 ∙ sym own.0) (λ own. absurd (own.1 (omega (arith, is.1)))) (eqb_tells k 0))
    (λ is. ⊎_elim (λ own. absurd (is.1 (omega (arith, own.1)))) (λ own. is.0 ∙ sym own.0) (eqb_tells k 0))
    (eqb_tells (0 + 2 * k) 0)

-- no lane is wrong exactly where all bytes are those of a name
pub lanes-names : (n : ℕ) (xs : List ℕ) → length xs ≡ n → (mask_l (wrong_lanes n xs) == 0) ≡ list_all is_name_byte xs
lanes-names zero [] long = refl
lanes-names zero (x ∷ xs) long = absurd (omega arith)
lanes-names (suc n) [] long = absurd (omega arith)
lanes-names (suc n) (x ∷ xs) long = rw (above x) (step (leb x 32) (x == 58) (mask_l (wrong_lanes n xs)) (list_all is_name_byte xs)
    (lanes-names n xs (omega arith)))
  where
    step : (low colon : Bool) (k : ℕ) (all : Bool) → (k == 0) ≡ all →
        (cond (top 7 (bit_or (cond low 255 0) (cond colon 255 0))) 1 0 + 2 * k == 0) ≡ ((not low && not colon) && all)
    step true true k all h = odd k
    step true false k all h = odd k
    step false true k all h = odd k
    step false false k all h = even k ∙ h
