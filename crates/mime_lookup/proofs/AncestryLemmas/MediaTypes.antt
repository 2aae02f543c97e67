-- What stands before the first slash of a type.
use Rattle.std.proofs.Common.{◌≡◌, ℕ, zero, suc, ◌<◌, ◌≤◌, ◌==◌, true, false, List, [], ◌∷◌, length, take, get_or}
use Rattle.std.proofs.Common.{Some, None, refl, ap, arith}
use Rattle.std.specs.List.{position, position_or_len}
use Rattle.std.proofs.lemmas.List.Quantifiers.{position-Some}
use Rattle.std.proofs.lemmas.List.Sums.{fails_before_first}
use Rattle.mime_lookup.specs.Icons.{before_slash}

-- up to a slash, the first
before_slash-at : (xs : List ℕ) (i : ℕ) → i < length xs → (get_or xs i 0 == 47) ≡ true →
    ((k : ℕ) → k < i → (get_or xs k 0 == 47) ≡ false) → take i xs ≡ before_slash xs
before_slash-at [] i within hit none = absurd (omega arith)
before_slash-at (x ∷ xs) zero within hit none = rw hit refl
before_slash-at (x ∷ xs) (suc i) within hit none =
    rw (none 0 (omega arith)) (ap (λ rest. x ∷ rest) (before_slash-at xs i (omega arith) hit (λ k l. none (suc k) (omega arith))))

-- all where there is none
before_slash-all : (xs : List ℕ) → ((k : ℕ) → k < length xs → (get_or xs k 0 == 47) ≡ false) → xs ≡ before_slash xs
before_slash-all [] none = refl
before_slash-all (x ∷ xs) none =
    rw (none 0 (omega arith)) (ap (λ rest. x ∷ rest) (before_slash-all xs (λ k l. none (suc k) (omega arith))))

-- by the place of the first slash
pub before_slash-some : (xs : List ℕ) (i : ℕ) → position (λ b. b == 47) xs ≡ Some i → take i xs ≡ before_slash xs
before_slash-some xs i found =
    let first = position-Some (λ b. b == 47) xs i 0 found in
    before_slash-at xs i first.0 first.1 first.2

-- without a slash all of it stands before one
pub before_slash-none : (xs : List ℕ) → position (λ b. b == 47) xs ≡ None → xs ≡ before_slash xs
before_slash-none xs missing =
    let none : length xs ≤ position_or_len (λ b. b == 47) xs = grind (arith, missing) in
    before_slash-all xs (λ k l. fails_before_first (λ b. b == 47) xs k 0 (omega arith))
