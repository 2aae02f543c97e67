-- The texts at offsets.
use Rattle.std.proofs.Common.{◌≡◌, ℕ, zero, suc, ◌+◌, ◌<◌, List, [], ◌∷◌, ◌++◌}
use Rattle.std.proofs.Common.{length, get_or, take, map, Ok, refl, sym, ap, ap₂, ◌∙◌, arith}
use Rattle.std.specs.Borrow.{Bor}
use Rattle.std.specs.List.{All}
use Rattle.std.proofs.lemmas.List.{map-append}
use Rattle.std.proofs.Math.Numerals.{suc-eq-add-one}
use Rattle.std.proofs.Math.Seq.{take-suc}
use Rattle.mime_base.specs.Cache.Texts.{text_at}
use Rattle.mime_view.specs.Texts.{AreTexts}

-- one text more
AreTexts-more : (c places : List ℕ) (texts : List (List ℕ)) (place : ℕ) (text : List ℕ) → AreTexts c places texts
    → text_at c place ≡ Ok text → AreTexts c (places ++ place ∷ []) (texts ++ text ∷ [])
AreTexts-more c [] [] place text are here = (here, tt)
AreTexts-more c [] (other ∷ texts) place text are here = absurd are
AreTexts-more c (other ∷ places) [] place text are here = absurd are
AreTexts-more c (first ∷ places) (other ∷ texts) place text are here = (are.0, AreTexts-more c places texts place text are.1 here)

-- one offset more, and the text that was read there
pub AreTexts-pushed : (c places : List ℕ) (i place : ℕ) (before after : List (Bor (List ℕ))) (text : Bor (List ℕ)) → i < length places
    → place ≡ get_or places i 0 → after ≡ before ++ text ∷ [] → AreTexts c (take i places) (map (λ text. text.now) before)
    → text_at c place ≡ Ok text.now → AreTexts c (take (i + 1) places) (map (λ text. text.now) after)
AreTexts-pushed c places i place before after text l is pushed are here =
    let view : Bor (List ℕ) → List ℕ = λ text. text.now in
    let more : take (i + 1) places ≡ take i places ++ place ∷ [] =
    ap (λ (n : ℕ). take n places) (sym (suc-eq-add-one i)) ∙ take-suc places i 0 l ∙ ap (λ (p : ℕ). take i places ++ p ∷ []) (sym is) in
    let all : map view after ≡ map view before ++ text.now ∷ [] = ap (map view) pushed ∙ map-append view before (text ∷ []) in
    rw (more, all) (AreTexts-more c (take i places) (map view before) place text.now are here)

-- the text at one offset
pub AreTexts-one : (c places : List ℕ) (place : ℕ) (text : List ℕ) → length places ≡ 1 → place ≡ get_or places 0 0
    → text_at c place ≡ Ok text → AreTexts c places (text ∷ [])
AreTexts-one c [] place text one is here = absurd (omega (arith, one))
AreTexts-one c (first ∷ []) place text one is here = (rw is at here, tt)
AreTexts-one c (first ∷ (second ∷ more)) place text one is here = absurd (omega (arith, one))

-- each is a text of the cache
pub AreTexts-all : (c places : List ℕ) (texts : List (List ℕ)) → AreTexts c places texts
    → All (λ text. (at : ℕ) × (text_at c at ≡ Ok text)) texts
AreTexts-all c places [] are k d l = absurd (omega arith)
AreTexts-all c [] (text ∷ texts) are k d l = absurd are
AreTexts-all c (place ∷ places) (text ∷ texts) are zero d l = (place, are.0)
AreTexts-all c (place ∷ places) (text ∷ texts) are (suc k) d l = AreTexts-all c places texts are.1 k d (omega arith)

-- there are as many as offsets
pub AreTexts-length : (c places : List ℕ) (texts : List (List ℕ)) → AreTexts c places texts → length texts ≡ length places
AreTexts-length c [] [] are = refl
AreTexts-length c [] (text ∷ texts) are = absurd are
AreTexts-length c (place ∷ places) [] are = absurd are
AreTexts-length c (place ∷ places) (text ∷ texts) are = ap suc (AreTexts-length c places texts are.1)

-- at each offset stands a text
pub AreTexts-at : (c places : List ℕ) (texts : List (List ℕ)) (i : ℕ) → AreTexts c places texts → i < length places
    → (text : List ℕ) × (text_at c (get_or places i 0) ≡ Ok text)
AreTexts-at c [] texts i are l = absurd (omega arith)
AreTexts-at c (place ∷ places) [] i are l = absurd are
AreTexts-at c (place ∷ places) (text ∷ texts) zero are l = (text, are.0)
AreTexts-at c (place ∷ places) (text ∷ texts) (suc i) are l = AreTexts-at c places texts i are.1 (omega arith)

-- what stands at offsets is one list
pub AreTexts-same : (c places : List ℕ) (texts others : List (List ℕ)) → AreTexts c places texts → AreTexts c places others → texts ≡ others
AreTexts-same c [] [] [] are these = refl
AreTexts-same c [] [] (other ∷ others) are these = absurd these
AreTexts-same c [] (text ∷ texts) others are these = absurd are
AreTexts-same c (place ∷ places) [] others are these = absurd are
AreTexts-same c (place ∷ places) (text ∷ texts) [] are these = absurd these
AreTexts-same c (place ∷ places) (text ∷ texts) (other ∷ others) are these =
    let first : text ≡ other = let e = sym are.0 ∙ these.0 in cc in
    ap₂ (λ (x : List ℕ) (xs : List (List ℕ)). x ∷ xs) first (AreTexts-same c places texts others are.1 these.1)
