-- Groups of bytes, reversed, byte by byte.
use Rattle.std.proofs.Common.{◌≡◌, ℕ, zero, suc, ◌+◌, ◌-◌, ◌*◌, ◌%◌, ◌<◌, ◌==◌, ◌&&◌, Bool, true, false, cond, List, []}
use Rattle.std.proofs.Common.{◌∷◌, length, get_or, refl, ap, ◌∙◌, arith}
use Rattle.std.proofs.lemmas.Bool.{eqb-true}
use Rattle.mime_base.specs.Magic.Masking.{group_of, reversed_fours, reversed_groups, reversed_twos}
use Rattle.mime_base.specs.Magic.Mirrored.{mirrored}
use Rattle.mime_base.specs.declared.magic.host.Host.{Host}
use Rattle.mime_base.specs.declared.magic.host.Host.TheVariants.{Little, Big}

-- reversing pairs leaves the length as it is
length-reversed_twos : (bytes : List ℕ) → length (reversed_twos bytes) ≡ length bytes
length-reversed_twos [] = refl
length-reversed_twos (a ∷ []) = refl
length-reversed_twos (a ∷ b ∷ rest) = ap (λ (n : ℕ). suc (suc n)) (length-reversed_twos rest)

-- reversing fours leaves the length as it is
length-reversed_fours : (bytes : List ℕ) → length (reversed_fours bytes) ≡ length bytes
length-reversed_fours [] = refl
length-reversed_fours (a ∷ []) = refl
length-reversed_fours (a ∷ b ∷ []) = refl
length-reversed_fours (a ∷ b ∷ c ∷ []) = refl
length-reversed_fours (a ∷ b ∷ c ∷ d ∷ rest) = ap (λ (n : ℕ). suc (suc (suc (suc n)))) (length-reversed_fours rest)

-- where the byte at a place comes from, in pairs
get_or-reversed_twos : (bytes : List ℕ) (i e : ℕ) → length bytes % 2 ≡ 0 → i < length bytes
    → get_or (reversed_twos bytes) i e ≡ get_or bytes (i + 1 - 2 * (i % 2)) e
get_or-reversed_twos [] i e even below = absurd (omega arith)
get_or-reversed_twos (a ∷ []) i e even below = absurd (omega arith)
get_or-reversed_twos (a ∷ b ∷ rest) zero e even below = refl
get_or-reversed_twos (a ∷ b ∷ rest) (suc zero) e even below = refl
get_or-reversed_twos (a ∷ b ∷ rest) (suc (suc i)) e even below =
    let place : suc (suc (i + 1 - 2 * (i % 2))) ≡ suc (suc i) + 1 - 2 * (suc (suc i) % 2) = omega arith in
    get_or-reversed_twos rest i e (omega arith) (omega arith) ∙ ap (λ (n : ℕ). get_or (a ∷ b ∷ rest) n e) place

-- where the byte at a place comes from, in fours
get_or-reversed_fours : (bytes : List ℕ) (i e : ℕ) → length bytes % 4 ≡ 0 → i < length bytes
    → get_or (reversed_fours bytes) i e ≡ get_or bytes (i + 3 - 2 * (i % 4)) e
get_or-reversed_fours [] i e even below = absurd (omega arith)
get_or-reversed_fours (a ∷ []) i e even below = absurd (omega arith)
get_or-reversed_fours (a ∷ b ∷ []) i e even below = absurd (omega arith)
get_or-reversed_fours (a ∷ b ∷ c ∷ []) i e even below = absurd (omega arith)
get_or-reversed_fours (a ∷ b ∷ c ∷ d ∷ rest) zero e even below = refl
get_or-reversed_fours (a ∷ b ∷ c ∷ d ∷ rest) (suc zero) e even below = refl
get_or-reversed_fours (a ∷ b ∷ c ∷ d ∷ rest) (suc (suc zero)) e even below = refl
get_or-reversed_fours (a ∷ b ∷ c ∷ d ∷ rest) (suc (suc (suc zero))) e even below = refl
get_or-reversed_fours (a ∷ b ∷ c ∷ d ∷ rest) (suc (suc (suc (suc i)))) e even below =
    let place : suc (suc (suc (suc (i + 3 - 2 * (i % 4))))) ≡ suc (suc (suc (suc i))) + 3 - 2 * (suc (suc (suc (suc i))) % 4) =
    omega arith in
    get_or-reversed_fours rest i e (omega arith) (omega arith)
    ∙ ap (λ (n : ℕ). get_or (a ∷ b ∷ c ∷ d ∷ rest) n e) place

-- what reversal by a group that divides the bytes keeps and moves
pub record Mirrors (group : ℕ) (bytes : List ℕ) : Type 0 where
  pub size : length (reversed_groups group bytes) ≡ length bytes
  pub moved : (i e : ℕ) → i < length bytes
      → get_or (reversed_groups group bytes) i e ≡ get_or bytes (mirrored group i) e
  pub within : (i : ℕ) → i < length bytes → mirrored group i < length bytes

-- reversed pairs mirror each group of 2
by_twos : (bytes : List ℕ) → length bytes % 2 ≡ 0 → Mirrors 2 bytes
by_twos bytes even = record {
  size = length-reversed_twos bytes;
  moved = λ i e. get_or-reversed_twos bytes i e even;
  within = λ i below. omega arith;
}

-- reversed fours mirror each group of 4
by_fours : (bytes : List ℕ) → length bytes % 4 ≡ 0 → Mirrors 4 bytes
by_fours bytes even = record {
  size = length-reversed_fours bytes;
  moved = λ i e. get_or-reversed_fours bytes i e even;
  within = λ i below. omega arith;
}

-- groups of one byte are mirrored as they are
by_ones : (bytes : List ℕ) → Mirrors 1 bytes
by_ones bytes = record { size = refl; moved = λ i e below. refl; within = λ i below. below }

-- a test that a group divides the size, passed
divides : (group size : ℕ) (test : Bool) → (test && (size % group == 0)) ≡ true → size % group ≡ 0
divides group size true h = eqb-true (size % group) 0 h
divides group size false h = absurd cc

-- the host's order on a little-endian host mirrors each group
little : (bytes : List ℕ) (two four : Bool) → (two ≡ true → length bytes % 2 ≡ 0)
    → (four ≡ true → length bytes % 4 ≡ 0)
    → Mirrors (cond two 2 (cond four 4 1)) bytes
little bytes true four by2 by4 = by_twos bytes (by2 refl)
little bytes false true by2 by4 = by_fours bytes (by4 refl)
little bytes false false by2 by4 = by_ones bytes

-- the group of a word divides the bytes
pub mirrors : (word : ℕ) (host : Host) (bytes : List ℕ) → Mirrors (group_of word host (length bytes)) bytes
mirrors word Big bytes = by_ones bytes
mirrors word Little bytes =
    little bytes _ _ (divides 2 (length bytes) (word == 2)) (divides 4 (length bytes) (word == 4))
