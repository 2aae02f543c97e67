-- The order of paths, by the numbers of their first eight bytes.
use Rattle.std.proofs.Common.{◌≡◌, ℕ, zero, suc, ◌<◌, List, [], ◌∷◌, length, drop, get_or, sym, ap, ap₂, ◌∙◌, refl}
use Rattle.std.proofs.Common.{arith}
use Rattle.std.specs.Ordering.{nat_cmp, ordering_then}
use Rattle.std.specs.Cmp.Lexicographic.{slice_cmp}
use Rattle.std.proofs.lemmas.List.{drop_all}
use Rattle.byteorder.specs.Endian.{big_from, big_number}
use Rattle.mime_store.specs.Fronts.{front}
use Rattle.mime_store.specs.Texts.{NoZero}
use Rattle.mime_store.proofs.BytesLemmas.Orders.{greater, less, ordered, then_assoc, then_equal}

-- there are as many
length-front : (n : ℕ) (path : List ℕ) → length (front n path) ≡ n
length-front zero path = refl
length-front (suc n) [] = ap suc (length-front n [])
length-front (suc n) (b ∷ path) = ap suc (length-front n path)

-- bytes that are those of a path, and zeros after its end, are its first
pub front-is : (n : ℕ) (bytes path : List ℕ) → length bytes ≡ n → ((k : ℕ) → k < n → get_or bytes k 0 ≡ get_or path k 0)
    → bytes ≡ front n path
front-is zero [] path long each = refl
front-is zero (x ∷ bytes) path long each = absurd (omega arith)
front-is (suc n) [] path long each = absurd (omega arith)
front-is (suc n) (x ∷ bytes) [] long each =
    ap₂ ◌∷◌ (each 0 (omega arith)) (front-is n bytes [] (omega arith) (λ k below. each (suc k) (omega arith)))
front-is (suc n) (x ∷ bytes) (b ∷ path) long each =
    ap₂ ◌∷◌ (each 0 (omega arith)) (front-is n bytes path (omega arith) (λ k below. each (suc k) (omega arith)))

-- a byte that both have
pub front-at : (n : ℕ) (path : List ℕ) (k : ℕ) → k < n → k < length path → get_or (front n path) k 0 ≡ get_or path k 0
front-at zero path k below inside = absurd (omega arith)
front-at (suc n) [] k below inside = absurd (omega arith)
front-at (suc n) (b ∷ path) zero below inside = refl
front-at (suc n) (b ∷ path) (suc k) below inside = front-at n path k (omega arith) (omega arith)

-- the first n bytes of two paths decide, and else those after them
front-order : (n : ℕ) (xs ys : List ℕ) → NoZero xs → NoZero ys
    → ordering_then (slice_cmp nat_cmp (front n xs) (front n ys)) (slice_cmp nat_cmp (drop n xs) (drop n ys)) ≡ slice_cmp nat_cmp xs ys
front-order zero xs ys some some' = refl
front-order (suc n) [] [] some some' =
    ap (λ rest. ordering_then (slice_cmp nat_cmp (front n []) (front n [])) (slice_cmp nat_cmp rest rest)) (sym (drop_all n [] (omega arith)))
    ∙ front-order n [] [] tt tt
front-order (suc n) [] (y ∷ ys) some some' = rw (less 0 y some'.0) refl
front-order (suc n) (x ∷ xs) [] some some' = rw (greater x 0 some.0) refl
front-order (suc n) (x ∷ xs) (y ∷ ys) some some' =
    then_assoc (nat_cmp x y) (slice_cmp nat_cmp (front n xs) (front n ys)) (slice_cmp nat_cmp (drop n xs) (drop n ys))
    ∙ ap (ordering_then (nat_cmp x y)) (front-order n xs ys some.1 some'.1)

-- the numbers of the first eight bytes decide, and else those after them
pub starts-order : (s t : ℕ) (xs ys : List ℕ) → s ≡ big_number 8 (front 8 xs) → t ≡ big_number 8 (front 8 ys)
    → ((k : ℕ) → get_or (front 8 xs) k 0 < 256) → ((k : ℕ) → get_or (front 8 ys) k 0 < 256) → NoZero xs → NoZero ys
    → ordering_then (nat_cmp s t) (slice_cmp nat_cmp (drop 8 xs) (drop 8 ys)) ≡ slice_cmp nat_cmp xs ys
starts-order s t xs ys is is' small small' some some' =
    let xs' = front 8 xs in
    let ys' = front 8 ys in
    let over = length-front 8 xs in
    let over' = length-front 8 ys in
    let fronts : nat_cmp s t ≡ slice_cmp nat_cmp xs' ys' =
    ap₂ nat_cmp is is'
    ∙ sym (ordered 0 8 xs' ys' (omega (arith, over)) (omega (arith, over')) small small'
    ∙ ap₂ (λ rest rest'. ordering_then (nat_cmp (big_from 0 8 xs') (big_from 0 8 ys')) (slice_cmp nat_cmp rest rest'))
    (drop_all 8 xs' (omega (arith, over))) (drop_all 8 ys' (omega (arith, over')))
    ∙ then_equal (nat_cmp (big_from 0 8 xs') (big_from 0 8 ys'))) in
    ap (λ o. ordering_then o (slice_cmp nat_cmp (drop 8 xs) (drop 8 ys))) fronts ∙ front-order 8 xs ys some some'
