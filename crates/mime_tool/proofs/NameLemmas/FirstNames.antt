-- The first name in the bytes of a list.
use Rattle.std.proofs.Common.{◌≡◌, ◌∙◌, ◌==◌, ◌&&◌, ℕ, Bool, true, false, List, [], ◌∷◌, ◌++◌, not, ap, refl, cond}
use Rattle.std.specs.List.{onto_first}
use Rattle.mime_tool.specs.Listed.{listed}
use Rattle.mime_tool.specs.Names.{has_no_zero}

-- of a conjunction with a negation both are known
neither : (a b : Bool) → (not a && b) ≡ true → (a ≡ false) × (b ≡ true)
neither true b h = absurd (cc)
neither false b h = (refl, h)

-- a byte that isn't zero goes onto the first name
listed-other : (b : ℕ) (rest : List ℕ) → (b == 0) ≡ false → listed (b ∷ rest) ≡ onto_first b (listed rest)
listed-other b rest other = ap (λ (zero : Bool). cond zero ([] ∷ listed rest) (onto_first b (listed rest))) other

-- a name that is ended is the first
pub listed-ended : (name rest : List ℕ) → has_no_zero name ≡ true → listed (name ++ 0 ∷ rest) ≡ name ∷ listed rest
listed-ended [] rest free = refl
listed-ended (b ∷ name) rest free =
    let both = neither (b == 0) (has_no_zero name) free in
    listed-other b (name ++ 0 ∷ rest) both.0 ∙ ap (onto_first b) (listed-ended name rest both.1)

-- one that isn't is the only one
pub listed-alone : (b : ℕ) (name : List ℕ) → has_no_zero (b ∷ name) ≡ true → listed (b ∷ name) ≡ (b ∷ name) ∷ []
listed-alone b [] free = listed-other b [] (neither (b == 0) true free).0
listed-alone b (c ∷ name) free =
    let both = neither (b == 0) (has_no_zero (c ∷ name)) free in
    listed-other b (c ∷ name) both.0 ∙ ap (onto_first b) (listed-alone c name both.1)

-- two pieces without a zero byte are one
pub no_zero-append : (xs ys : List ℕ) → has_no_zero xs ≡ true → has_no_zero ys ≡ true → has_no_zero (xs ++ ys) ≡ true
no_zero-append [] ys p q = q
no_zero-append (x ∷ xs) ys p q =
    let both = neither (x == 0) (has_no_zero xs) p in
    rw (both.0) (no_zero-append xs ys both.1 q)
