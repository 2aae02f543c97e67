-- The order of bytes, by the numbers of the first ones.
use Rattle.std.proofs.Common.{◌≡◌, ℕ, zero, suc, ◌+◌, ◌-◌, ◌*◌, ◌^◌, ◌<◌, ◌≤◌, List, length, get_or, take, drop, refl, sym, ap, ap₂}
use Rattle.std.proofs.Common.{Ordering, Less, Equal, Greater, arith, ⊎_elim, ◌∙◌, drop-drop, length-drop, subst}
use Rattle.std.specs.Ordering.{nat_cmp, ordering_then}
use Rattle.std.specs.Cmp.Lexicographic.{slice_cmp}
use Rattle.std.proofs.Math.Nat.{mul-le-mul_right}
use Rattle.std.proofs.Math.Seq.{drop-cons}
use Rattle.std.proofs.lemmas.Bool.{cases_order}
use Rattle.std.proofs.lemmas.Bool.Decides.{nat_tests}
use Rattle.std.proofs.lemmas.List.{get_or-drop, take_rest}
use Rattle.byteorder.specs.Endian.{big_from, big_number}

-- ---- what a comparison of numbers says

-- the lesser is less
pub less : (x y : ℕ) → x < y → nat_cmp x y ≡ Less
less x y h = grind (arith, nat_tests)

-- equal numbers are equal
equal : (x y : ℕ) → x ≡ y → nat_cmp x y ≡ Equal
equal x y h = grind (arith, nat_tests)

-- the greater is greater
pub greater : (x y : ℕ) → y < x → nat_cmp x y ≡ Greater
greater x y h = grind (arith, nat_tests)

-- other numbers are not equal
unequal : (x y : ℕ) → (x ≡ y → ⊥) → nat_cmp x y ≡ Equal → ⊥
unequal x y differ e = ⊎_elim (λ (e' : x ≡ y). differ e')
    (λ o. ⊎_elim (λ (lt : x < y). let bad : Less ≡ Equal = sym (less x y lt) ∙ e in absurd (cc))
    (λ (gt : y < x). let bad : Greater ≡ Equal = sym (greater x y gt) ∙ e in absurd (cc)) o) (cases_order x y)

-- numbers that differ decide, whatever comes after
pub decided : (x y : ℕ) (rest : Ordering) → (x ≡ y → ⊥) → ordering_then (nat_cmp x y) rest ≡ nat_cmp x y
decided x y rest differ = first (nat_cmp x y) (unequal x y differ)
  where
    first : (o : Ordering) → (o ≡ Equal → ⊥) → ordering_then o rest ≡ o
    first Less differ = refl
    first Equal differ = absurd (differ refl)
    first Greater differ = refl

-- equal numbers leave it to what comes after
pub left_over : (x y : ℕ) (rest : Ordering) → x ≡ y → ordering_then (nat_cmp x y) rest ≡ rest
left_over x y rest same = ap (λ o. ordering_then o rest) (equal x y same)

-- nothing more changes no order
pub then_equal : (o : Ordering) → ordering_then o Equal ≡ o
then_equal Less = refl
then_equal Equal = refl
then_equal Greater = refl

-- three orders one after another
pub then_assoc : (a b c : Ordering) → ordering_then (ordering_then a b) c ≡ ordering_then a (ordering_then b c)
then_assoc Less b c = refl
then_assoc Equal b c = refl
then_assoc Greater b c = refl

-- ---- numbers of bytes

-- the bytes from a place on make a number below this power
big_from-below : (i n : ℕ) (xs : List ℕ) → ((k : ℕ) → get_or xs k 0 < 256) → big_from i n xs < 256 ^ n
big_from-below i zero xs small = omega arith
big_from-below i (suc n) xs small =
    let high : get_or xs i 0 * 256 ^ n ≤ 255 * 256 ^ n = mul-le-mul_right (256 ^ n) (omega (arith, small i)) in
    omega (arith, high, big_from-below (suc i) n xs small)

-- the higher bytes decide, and the lower ones where those are equal
high_first : (x y p q power : ℕ) → p < power → q < power → nat_cmp (x * power + p) (y * power + q) ≡ ordering_then (nat_cmp x y) (nat_cmp p q)
high_first x y p q power below below' = ⊎_elim
    (λ (e : x ≡ y). rw (equal x y e) (nat_cmp_on (x * power) (y * power) p q (ap (λ (z : ℕ). z * power) e)))
    (λ o. ⊎_elim
    (λ (lt : x < y). let more : suc x * power ≤ y * power = mul-le-mul_right power lt in
    rw (less x y lt) (less (x * power + p) (y * power + q) (omega (arith, more))))
    (λ (gt : y < x). let more : suc y * power ≤ x * power = mul-le-mul_right power gt in
    rw (greater x y gt) (greater (x * power + p) (y * power + q) (omega (arith, more))))
    o)
    (cases_order x y)
  where
    nat_cmp_on : (a b p q : ℕ) → a ≡ b → nat_cmp (a + p) (b + q) ≡ nat_cmp p q
    nat_cmp_on a b p q e = grind (arith, nat_tests)

-- bytes from a place on are ordered as the numbers of the first n, and else as the others
pub ordered : (i n : ℕ) (xs ys : List ℕ) → i + n ≤ length xs → i + n ≤ length ys
    → ((k : ℕ) → get_or xs k 0 < 256) → ((k : ℕ) → get_or ys k 0 < 256)
    → slice_cmp nat_cmp (drop i xs) (drop i ys)
    ≡ ordering_then (nat_cmp (big_from i n xs) (big_from i n ys)) (slice_cmp nat_cmp (drop (i + n) xs) (drop (i + n) ys))
ordered i zero xs ys room room' small small' = let none : i + 0 ≡ i = omega arith in rw none refl
ordered i (suc n) xs ys room room' small small' =
    let x = get_or xs i 0 in
    let y = get_or ys i 0 in
    let p = big_from (suc i) n xs in
    let q = big_from (suc i) n ys in
    let next : suc i + n ≡ i + suc n = omega arith in
    let rest = slice_cmp nat_cmp (drop (suc i + n) xs) (drop (suc i + n) ys) in
    ap₂ (slice_cmp nat_cmp) (drop-cons xs i 0 (omega (arith, room))) (drop-cons ys i 0 (omega (arith, room')))
    ∙ ap (ordering_then (nat_cmp x y)) (ordered (suc i) n xs ys (omega (arith, room)) (omega (arith, room')) small small')
    ∙ sym (then_assoc (nat_cmp x y) (nat_cmp p q) rest)
    ∙ ap (λ o. ordering_then o rest) (sym (high_first x y p q (256 ^ n) (big_from-below (suc i) n xs small) (big_from-below (suc i) n ys small')))
    ∙ ap (λ (k : ℕ). ordering_then (nat_cmp (x * 256 ^ n + p) (y * 256 ^ n + q)) (slice_cmp nat_cmp (drop k xs) (drop k ys))) next

-- ---- eight bytes at a time

-- eight bytes from a place on decide, or those after them
words : (at : ℕ) (xs ys : List ℕ) (word other : ℕ) → at + 8 ≤ length xs → at + 8 ≤ length ys
    → ((k : ℕ) → get_or xs k 0 < 256) → ((k : ℕ) → get_or ys k 0 < 256)
    → word ≡ big_number 8 (take (length xs - at) (drop at xs)) → other ≡ big_number 8 (take (length ys - at) (drop at ys))
    → slice_cmp nat_cmp (drop at xs) (drop at ys)
    ≡ ordering_then (nat_cmp word other) (slice_cmp nat_cmp (drop (at + 8) xs) (drop (at + 8) ys))
words at xs ys word other room room' small small' is is' =
    let word_is : big_from 0 8 (drop at xs) ≡ word = sym (is ∙ ap (big_from 0 8) (take_rest xs at)) in
    let other_is : big_from 0 8 (drop at ys) ≡ other = sym (is' ∙ ap (big_from 0 8) (take_rest ys at)) in
    ordered 0 8 (drop at xs) (drop at ys) (omega (arith, room, length-drop at xs)) (omega (arith, room', length-drop at ys))
    (λ k. subst (λ (b : ℕ). b < 256) (sym (get_or-drop at xs k 0)) (small (at + k)))
    (λ k. subst (λ (b : ℕ). b < 256) (sym (get_or-drop at ys k 0)) (small' (at + k)))
    ∙ ap₂ (λ w o. ordering_then (nat_cmp w o) (slice_cmp nat_cmp (drop 8 (drop at xs)) (drop 8 (drop at ys)))) word_is other_is
    ∙ ap₂ (λ l r. ordering_then (nat_cmp word other) (slice_cmp nat_cmp l r)) (drop-drop 8 at xs) (drop-drop 8 at ys)

-- where they are equal, those after them decide
pub words-equal : (at : ℕ) (xs ys : List ℕ) (word other : ℕ) → at + 8 ≤ length xs → at + 8 ≤ length ys
    → ((k : ℕ) → get_or xs k 0 < 256) → ((k : ℕ) → get_or ys k 0 < 256)
    → word ≡ big_number 8 (take (length xs - at) (drop at xs)) → other ≡ big_number 8 (take (length ys - at) (drop at ys))
    → word ≡ other → slice_cmp nat_cmp (drop at xs) (drop at ys) ≡ slice_cmp nat_cmp (drop (at + 8) xs) (drop (at + 8) ys)
words-equal at xs ys word other room room' small small' is is' same =
    words at xs ys word other room room' small small' is is'
    ∙ left_over word other (slice_cmp nat_cmp (drop (at + 8) xs) (drop (at + 8) ys)) same

-- where they differ, they decide
pub words-differ : (at : ℕ) (xs ys : List ℕ) (word other : ℕ) → at + 8 ≤ length xs → at + 8 ≤ length ys
    → ((k : ℕ) → get_or xs k 0 < 256) → ((k : ℕ) → get_or ys k 0 < 256)
    → word ≡ big_number 8 (take (length xs - at) (drop at xs)) → other ≡ big_number 8 (take (length ys - at) (drop at ys))
    → (word ≡ other → ⊥) → slice_cmp nat_cmp (drop at xs) (drop at ys) ≡ nat_cmp word other
words-differ at xs ys word other room room' small small' is is' differ =
    words at xs ys word other room room' small small' is is'
    ∙ decided word other (slice_cmp nat_cmp (drop (at + 8) xs) (drop (at + 8) ys)) differ
