-- Bytes at the front of a text that stand for themselves: what the lanes of a vector tell of special bytes, and elements.
use Rattle.std.proofs.Common.{◌≡◌, ℕ, zero, suc, ◌+◌, ◌%◌, ◌^◌, ◌<◌, ◌≤◌, ◌==◌, Bool, true, false, cond, not, ◌&&◌, ◌||◌}
use Rattle.std.proofs.Common.{List, [], ◌∷◌, length, take, drop, map, replicate, refl, sym, ap, ◌∙◌, arith}
use Rattle.std.specs.List.{prefix_len}
use Rattle.std.specs.Simd.Lanes.{mask_l, top, zip2}
use Rattle.std.proofs.lemmas.Bool.{and_parts, not-true}
use Rattle.std.proofs.lemmas.List.{length-map, take-append-drop, take-take, take_all}
use Rattle.std.proofs.lemmas.List.Folds.{list_all-append}
use Rattle.std.proofs.lemmas.List.Sums.{prefix_len-le-length}
use lib.Bits.{bit_or}
use lib.Count.{count_trailing_zeros}
use Rattle.mime_base.specs.Matching.Count.{has_star}
use Rattle.mime_base.specs.Matching.Elements.{elements, is_literal_text, is_special, itself_len}
use Rattle.mime_base.specs.Matching.Folding.{compared, compared_byte}
use Rattle.mime_base.proofs.CacheLemmas.Eights.{first-place, no-place}
use Rattle.mime_base.proofs.MatchingLemmas.Endings.{elements-itself}
use Rattle.mime_base.proofs.MatchingLemmas.Sets.{is_special-compared}

-- the lanes that are `*` (42) or `?` (63), or `[` (91) or `\` (92)
abbrev pub special_lanes : ℕ → List ℕ → List Bool
special_lanes n xs = map (top 7)
    (zip2 bit_or
    (zip2 bit_or (zip2 (λ a b. cond (a == b) 255 0) xs (replicate n 42)) (zip2 (λ a b. cond (a == b) 255 0) xs (replicate n 63)))
    (zip2 bit_or (zip2 (λ a b. cond (a == b) 255 0) xs (replicate n 91)) (zip2 (λ a b. cond (a == b) 255 0) xs (replicate n 92))))

-- a lane is set where one of the four is there
special-lane : (star question bracket escape : Bool) →
    top 7 (bit_or (bit_or (cond star 255 0) (cond question 255 0)) (bit_or (cond bracket 255 0) (cond escape 255 0)))
    ≡ (star || question || bracket || escape)
special-lane false false false false = refl
special-lane false false false true = refl
special-lane false false true false = refl
special-lane false false true true = refl
special-lane false true false false = refl
special-lane false true false true = refl
special-lane false true true false = refl
special-lane false true true true = refl
special-lane true false false false = refl
special-lane true false false true = refl
special-lane true false true false = refl
special-lane true false true true = refl
special-lane true true false false = refl
special-lane true true false true = refl
special-lane true true true false = refl
special-lane true true true true = refl

-- the lanes say which bytes are special
lanes-special : (n : ℕ) (xs : List ℕ) → length xs ≡ n → special_lanes n xs ≡ map is_special xs
lanes-special zero [] long = refl
lanes-special zero (x ∷ xs) long = absurd (omega arith)
lanes-special (suc n) [] long = absurd (omega arith)
lanes-special (suc n) (x ∷ xs) long =
    rw (special-lane (x == 42) (x == 63) (x == 91) (x == 92), lanes-special n xs (omega arith)) refl

-- it ends before the first lane that is set
itself-lanes : (xs : List ℕ) → prefix_len (λ m. not m) (map is_special xs) ≡ itself_len xs
itself-lanes [] = refl
itself-lanes (x ∷ xs) = ap (λ n. cond (not (is_special x)) (1 + n) 0) (itself-lanes xs)

-- one byte more, as it is counted
suc-take : (n x : ℕ) (xs : List ℕ) → take (1 + n) (x ∷ xs) ≡ x ∷ take n xs
suc-take n x xs = ap (λ k. take k (x ∷ xs)) {x = 1 + n} {y = suc n} (omega arith)

-- it stands for itself
itself-literal : (xs : List ℕ) → is_literal_text (take (itself_len xs) xs) ≡ true
itself-literal [] = refl
itself-literal (x ∷ xs) = by_first (not (is_special x)) refl (itself-literal xs)
  where
    by_first : (is : Bool) → not (is_special x) ≡ is → is_literal_text (take (itself_len xs) xs) ≡ true →
        is_literal_text (take (cond is (1 + itself_len xs) 0) (x ∷ xs)) ≡ true
    by_first true e rest = rw (suc-take (itself_len xs) x xs, e, rest) refl
    by_first false e rest = refl

-- where it is not all, a special byte is there
itself-short : (xs : List ℕ) → itself_len xs < length xs → is_literal_text xs ≡ false
itself-short [] short = absurd (omega arith)
itself-short (x ∷ xs) short = by_first (not (is_special x)) short (itself-short xs)
  where
    by_first : (is : Bool) → cond is (1 + itself_len xs) 0 < suc (length xs) → (itself_len xs < length xs → is_literal_text xs ≡ false) →
        (is && is_literal_text xs) ≡ false
    by_first true less rest = rest (omega (arith, less))
    by_first false less rest = refl

-- a text whose first bytes do not all stand for themselves does not
literal-front : (k : ℕ) (text : List ℕ) → is_literal_text (take k text) ≡ false → is_literal_text text ≡ false
literal-front k text none =
    ap is_literal_text (sym (take-append-drop k text)) ∙ list_all-append (λ b. not (is_special b)) (take k text) (drop k text)
    ∙ ap (λ first. first && is_literal_text (drop k text)) none

-- where a lane is set, the lowest tells how many bytes stand for themselves
pub itself-found : (text : List ℕ) (places : ℕ) → length (take 8 text) ≡ 8 → places ≡ mask_l (special_lanes 8 (take 8 text)) % 2 ^ 64 →
    0 < places → (is_literal_text (take (count_trailing_zeros 64 places) text) ≡ true) × (count_trailing_zeros 64 places ≤ 8)
    × (count_trailing_zeros 64 places < 8 → is_literal_text text ≡ false)
    × (count_trailing_zeros 64 places ≡ itself_len (take 8 text))
itself-found text places long is some =
    let front = take 8 text in
    let lanes = lanes-special 8 front long in
    let size = length-map front is_special in
    let found : count_trailing_zeros 64 places ≡ itself_len front =
    first-place (map is_special front) places (omega (arith, size, long)) (is ∙ ap (λ ms. mask_l ms % 2 ^ 64) lanes) some
    ∙ itself-lanes front in
    let within : itself_len front ≤ 8 = omega (arith, prefix_len-le-length (λ b. not (is_special b)) front, long) in
    let same : take (itself_len front) front ≡ take (itself_len front) text = take-take (itself_len front) 8 text within in
    rw found (
      ap is_literal_text (sym same) ∙ itself-literal front,
      within,
      (λ less. literal-front 8 text (itself-short front (omega (arith, less, long)))),
      refl,
    )

-- where none is set, all eight do
pub itself-all : (text : List ℕ) (places : ℕ) → length (take 8 text) ≡ 8 → places ≡ mask_l (special_lanes 8 (take 8 text)) % 2 ^ 64 →
    places ≡ 0 → (is_literal_text (take 8 text) ≡ true) × (itself_len (take 8 text) ≡ 8)
itself-all text places long is none =
    let front = take 8 text in
    let lanes = lanes-special 8 front long in
    let size = length-map front is_special in
    let all : itself_len front ≡ 8 =
    sym (itself-lanes front)
    ∙ no-place (map is_special front) places (omega (arith, size, long)) (is ∙ ap (λ ms. mask_l ms % 2 ^ 64) lanes) none ∙ size ∙ long in
    (ap is_literal_text (sym (take_all (itself_len front) front (omega (arith, all, long)))) ∙ itself-literal front, all)

-- bytes that stand for themselves are an element each, and none is a star
pub literal-elements : (cased : Bool) (k : ℕ) (text : List ℕ) → k ≤ length text → is_literal_text (take k text) ≡ true →
    (has_star (elements (compared cased text)) ≡ has_star (elements (compared cased (drop k text))))
    × (length (elements (compared cased text)) ≡ k + length (elements (compared cased (drop k text))))
literal-elements cased zero text within is = (refl, omega arith)
literal-elements cased (suc k) [] within is = absurd (omega arith)
literal-elements cased (suc k) (b ∷ rest) within is =
    let parts = and_parts _ _ is in
    let next = literal-elements cased k rest (omega arith) parts.1 in
    rw (elements-itself (compared_byte cased b) (compared cased rest) (is_special-compared cased b ∙ not-true _ parts.0))
    (next.0, omega (arith, next.1))
