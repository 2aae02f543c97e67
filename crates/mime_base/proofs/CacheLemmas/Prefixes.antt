-- Lists that are equal as far as they reach.
use Rattle.std.proofs.Common.{◌≡◌, ℕ, suc, ◌+◌, ◌==◌, ◌&&◌, nat_eq, Bool, true, false, cond, List, [], ◌∷◌, length, take, refl, ◌∙◌, arith}
use Rattle.std.proofs.lemmas.Bool.{eq-eqb, eqb-true, ne_eqb}
use Rattle.std.proofs.lemmas.Bool.Decides.{nat_tests}
use Rattle.std.specs.List.{common_prefix_len}
use Rattle.std.specs.Str.{bytes_eq}

-- a list is itself as far as it reaches
pub common_prefix_len-self : (xs : List ℕ) → common_prefix_len nat_eq xs xs ≡ length xs
common_prefix_len-self [] = refl
common_prefix_len-self (x ∷ xs) = rw (eq-eqb x x refl) (omega (arith, common_prefix_len-self xs))

-- that many are equal, and one more
pub longer : (test : Bool) (n k : ℕ) → cond test (1 + n) 0 ≡ suc k → (test ≡ true) × (n ≡ k)
longer true n k e = (refl, omega arith)
longer false n k e = absurd (omega arith)

-- two lists are equal if both reach no further than they are equal
pub equal_by_prefix : (xs ys : List ℕ) → common_prefix_len nat_eq xs ys ≡ length xs
    → common_prefix_len nat_eq xs ys ≡ length ys → xs ≡ ys
equal_by_prefix [] [] left right = refl
equal_by_prefix [] (y ∷ ys) left right = absurd (omega arith)
equal_by_prefix (x ∷ xs) [] left right = absurd (omega arith)
equal_by_prefix (x ∷ xs) (y ∷ ys) left right =
    let a = longer (x == y) (common_prefix_len nat_eq xs ys) (length xs) left in
    let b = longer (x == y) (common_prefix_len nat_eq xs ys) (length ys) right in
    let first = eqb-true x y a.0 in
    let rest = equal_by_prefix xs ys a.1 b.1 in
    rw (first, rest) refl

-- a test of two numbers, one less each
eqb-suc : (n k : ℕ) → (1 + n == suc k) ≡ (n == k)
eqb-suc n k = grind (arith, nat_tests)

-- lists of one length are equal if one is equal as far as it reaches
pub bytes_eq-prefix : (xs ys : List ℕ) → length xs ≡ length ys
    → (common_prefix_len nat_eq xs ys == length xs) ≡ bytes_eq xs ys
bytes_eq-prefix [] [] same = refl
bytes_eq-prefix [] (y ∷ ys) same = absurd (omega arith)
bytes_eq-prefix (x ∷ xs) [] same = absurd (omega arith)
bytes_eq-prefix (x ∷ xs) (y ∷ ys) same =
    both (x == y) (eqb-suc (common_prefix_len nat_eq xs ys) (length xs) ∙ bytes_eq-prefix xs ys (omega arith))
  where
    both : (test : Bool) → (1 + common_prefix_len nat_eq xs ys == suc (length xs)) ≡ bytes_eq xs ys
        → (cond test (1 + common_prefix_len nat_eq xs ys) 0 == suc (length xs)) ≡ (test && bytes_eq xs ys)
    both true rest = rest
    both false rest = ne_eqb 0 (suc (length xs)) (λ e. omega arith)

-- a list begins with another if that is equal as far as it reaches
pub front_by_prefix : (xs ys : List ℕ) → common_prefix_len nat_eq xs ys ≡ length xs → take (length xs) ys ≡ xs
front_by_prefix [] ys whole = refl
front_by_prefix (x ∷ xs) [] whole = absurd (omega arith)
front_by_prefix (x ∷ xs) (y ∷ ys) whole =
    let a = longer (x == y) (common_prefix_len nat_eq xs ys) (length xs) whole in
    let first = eqb-true x y a.0 in
    let rest = front_by_prefix xs ys a.1 in
    rw (first, rest) refl

-- a text that another begins with is their common front
pub prefix_by_front : (xs ys : List ℕ) → take (length xs) ys ≡ xs → common_prefix_len nat_eq xs ys ≡ length xs
prefix_by_front [] ys is = refl
prefix_by_front (x ∷ xs) [] is = absurd cc
prefix_by_front (x ∷ xs) (y ∷ ys) is =
    let first : x ≡ y = cc in
    let rest : take (length xs) ys ≡ xs = cc in
    rw (eq-eqb x y first) (omega (arith, prefix_by_front xs ys rest))
