-- Hyphens that are put in the place of slashes, one byte after another.
use Rattle.std.proofs.Common.{◌≡◌, ℕ, zero, suc, ◌+◌, ◌<◌, List, [], ◌∷◌, ◌++◌, length, take, drop, map, set, get_or}
use Rattle.std.proofs.Common.{sym, ap, ◌∙◌, add-one, arith}
use Rattle.mime_lookup.specs.Icons.{hyphen_for_slash}

-- hyphens stand for the slashes of that many bytes
abbrev pub hyphens_to : ℕ → List ℕ → List ℕ
hyphens_to i xs = map hyphen_for_slash (take i xs) ++ drop i xs

-- one byte more
hyphen_put : (xs : List ℕ) (i y : ℕ) → i < length xs → y ≡ hyphen_for_slash (get_or (hyphens_to i xs) i 0)
    → set (hyphens_to i xs) i y ≡ hyphens_to (suc i) xs
hyphen_put [] i y within value = absurd (omega (arith, within))
hyphen_put (x ∷ xs) zero y within value = ap (λ (b : ℕ). b ∷ xs) value
hyphen_put (x ∷ xs) (suc i) y within value =
    ap (λ (rest : List ℕ). hyphen_for_slash x ∷ rest) (hyphen_put xs i y (omega (arith, within)) value)

-- one byte more of bytes that are so
pub hyphens-more : (xs now : List ℕ) (i y : ℕ) → i < length xs → now ≡ hyphens_to i xs → y ≡ hyphen_for_slash (get_or now i 0)
    → set now i y ≡ hyphens_to (i + 1) xs
hyphens-more xs now i y within is value =
    ap (λ (bytes : List ℕ). set bytes i y) is
    ∙ hyphen_put xs i y within (value ∙ ap (λ (bytes : List ℕ). hyphen_for_slash (get_or bytes i 0)) is)
    ∙ ap (λ (n : ℕ). hyphens_to n xs) (sym (add-one i))
