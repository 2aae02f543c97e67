-- Capitals of a name by windows of its bytes: what the lanes of a vector tell, and what two windows tell together.
use Rattle.std.proofs.Common.{◌≡◌, ◌≤◌, ℕ, zero, suc, ◌+◌, ◌-◌, ◌*◌, ◌==◌, leb, Bool, true, false, cond, not, ◌&&◌, ◌||◌, List, [], ◌∷◌}
use Rattle.std.proofs.Common.{length, take, drop, map, replicate, refl, sym, ap, ◌∙◌, arith, true≢false}
use Rattle.std.specs.Prelude.{nat_le}
use Rattle.std.specs.Simd.Lanes.{mask_l, top, zip2}
use Rattle.std.proofs.lemmas.List.{drop-drop, take-append-drop}
use Rattle.std.proofs.lemmas.List.Folds.{list_any-append}
use lib.Bits.{bit_and}
use Rattle.mime_base.proofs.NameLemmas.{even, odd}
use Rattle.mime_view.specs.NameHits.{has_capitals}

-- the lanes that are at least A (65) and at most Z (90)
abbrev pub capital_lanes : ℕ → List ℕ → List Bool
capital_lanes n xs = map (top 7)
    (zip2 bit_and (zip2 (λ a b. cond (leb a b) 255 0) (replicate n 65) xs) (zip2 (λ a b. cond (leb a b) 255 0) xs (replicate n 90)))

-- there is a lane for each byte
pub capital_lanes-length : (n : ℕ) (xs : List ℕ) → length xs ≡ n → length (capital_lanes n xs) ≡ n
capital_lanes-length zero [] long = refl
capital_lanes-length zero (x ∷ xs) long = absurd (omega arith)
capital_lanes-length (suc n) [] long = absurd (omega arith)
capital_lanes-length (suc n) (x ∷ xs) long = ap suc (capital_lanes-length n xs (omega arith))

-- a lane is set exactly where a byte is a capital
pub lanes-capitals : (n : ℕ) (xs : List ℕ) → length xs ≡ n → not (mask_l (capital_lanes n xs) == 0) ≡ has_capitals xs
lanes-capitals zero [] long = refl
lanes-capitals zero (x ∷ xs) long = absurd (omega arith)
lanes-capitals (suc n) [] long = absurd (omega arith)
lanes-capitals (suc n) (x ∷ xs) long = step (leb 65 x) (leb x 90) (mask_l (capital_lanes n xs)) (has_capitals xs)
    (lanes-capitals n xs (omega arith))
  where
    step : (least most : Bool) (k : ℕ) (any : Bool) → not (k == 0) ≡ any →
        not (cond (top 7 (bit_and (cond least 255 0) (cond most 255 0))) 1 0 + 2 * k == 0) ≡ ((least && most) || any)
    step true true k any h = ap not (odd k)
    step true false k any h = ap not (even k) ∙ h
    step false true k any h = ap not (even k) ∙ h
    step false false k any h = ap not (even k) ∙ h

-- a capital is among the first bytes, or among those after them
pub capitals-either : (k : ℕ) (name : List ℕ) → has_capitals name ≡ (has_capitals (take k name) || has_capitals (drop k name))
capitals-either k name =
    ap has_capitals (sym (take-append-drop k name)) ∙ list_any-append (λ b. nat_le 65 b && nat_le b 90) (take k name) (drop k name)

-- whether either is true where the second is
or_second : (first later : Bool) → later ≡ true → (first || later) ≡ true
or_second true later is = refl
or_second false later is = is

-- a capital among the first bytes is one of the name
pub capitals-front : (k : ℕ) (name : List ℕ) → has_capitals (take k name) ≡ true → has_capitals name ≡ true
capitals-front k name is = capitals-either k name ∙ ap (λ first. first || has_capitals (drop k name)) is

-- a capital after the first bytes is one of the name
pub capitals-after : (k : ℕ) (name : List ℕ) → has_capitals (drop k name) ≡ true → has_capitals name ≡ true
capitals-after k name is = capitals-either k name ∙ or_second (has_capitals (take k name)) (has_capitals (drop k name)) is

-- where the first bytes have none, those after them tell
pub capitals-passed : (k : ℕ) (name : List ℕ) → has_capitals (take k name) ≡ false → has_capitals (drop k name) ≡ has_capitals name
capitals-passed k name none = sym (capitals-either k name ∙ ap (λ first. first || has_capitals (drop k name)) none)

-- where the bytes from a place on tell, those from a place before it on do
pub capitals-from : (near far : ℕ) (name : List ℕ) → near ≤ far → has_capitals (drop far name) ≡ has_capitals name
    → has_capitals (drop near name) ≡ has_capitals name
capitals-from near far name within tells = by_near (has_capitals (drop near name)) refl
  where
    beyond : drop far name ≡ drop (far - near) (drop near name)
    beyond = ap (λ k. drop k name) (omega arith) ∙ sym (drop-drop (far - near) near name)

    by_far : (is : Bool) → has_capitals (drop far name) ≡ is → has_capitals (drop near name) ≡ false → has_capitals (drop far name) ≡ false
    by_far false e none = e
    by_far true e none = absurd (true≢false
        (sym (capitals-after (far - near) (drop near name) (ap has_capitals (sym beyond) ∙ e)) ∙ none))

    by_near : (is : Bool) → has_capitals (drop near name) ≡ is → has_capitals (drop near name) ≡ has_capitals name
    by_near true e = e ∙ sym (capitals-after near name e)
    by_near false e = e ∙ sym (by_far (has_capitals (drop far name)) refl e) ∙ tells

-- where a first window reaches the second and has none, the second tells
pub capitals-window : (reach start : ℕ) (name : List ℕ) → start ≤ reach → has_capitals (take reach name) ≡ false
    → has_capitals (drop start name) ≡ has_capitals name
capitals-window reach start name within none = capitals-from start reach name within (capitals-passed reach name none)
