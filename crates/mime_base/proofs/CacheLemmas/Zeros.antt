-- What stands before the first zero of bytes.
use Rattle.std.proofs.Common.{◌≡◌, ℕ, zero, suc, ◌<◌, ◌≤◌, ◌==◌, nat_eq, nat_lt, Bool, true, false, cond, List, [], ◌∷◌}
use Rattle.std.proofs.Common.{length, get_or, take, Ordering, Err, Option, Some, None, refl, ap, arith}
use Rattle.std.specs.Prelude.{MatchOption}
use Rattle.memchr.specs.Find.{IsFirstByte, is_byte}
use Rattle.std.proofs.lemmas.Bool.{le-ltb, ltb-false}
use Rattle.std.proofs.lemmas.List.Sums.{common_prefix_len-le}
use Rattle.mime_base.specs.Cache.Texts.{before_zero, shared, text_in, unended}

-- a test that can't pass fails
not_true : (test : Bool) → (test ≡ true → ⊥) → test ≡ false
not_true true differs = absurd (differs refl)
not_true false differs = refl

-- the bytes up to a zero that has none before it
pub before_zero-take : (bytes : List ℕ) (i : ℕ) → i < length bytes
    → ((k : ℕ) → k < i → (get_or bytes k 0 == 0) ≡ true → ⊥)
    → (get_or bytes i 0 == 0) ≡ true → before_zero bytes ≡ take i bytes
before_zero-take [] i below others stop = absurd (omega arith)
before_zero-take (b ∷ bytes) zero below others stop = rw stop refl
before_zero-take (b ∷ bytes) (suc i) below others stop =
    let first = not_true (b == 0) (others 0 (omega arith)) in
    let rest = before_zero-take bytes i (omega arith) (λ k l. others (suc k) (omega arith)) stop in
    rw (first, rest) refl

-- all bytes, where none is a zero
pub before_zero-all : (bytes : List ℕ)
    → ((k : ℕ) → k < length bytes → (get_or bytes k 0 == 0) ≡ true → ⊥) → before_zero bytes ≡ bytes
before_zero-all [] others = refl
before_zero-all (b ∷ bytes) others =
    let first = not_true (b == 0) (others 0 (omega arith)) in
    let rest = before_zero-all bytes (λ k l. others (suc k) (omega arith)) in
    rw (first, rest) refl

-- what a search for a zero tells
pub first_zero-is : (bytes : List ℕ) (found : Option ℕ) → IsFirstByte (is_byte 0) bytes found
    → MatchOption found (before_zero bytes ≡ bytes) (λ i. (i < length bytes) × (before_zero bytes ≡ take i bytes))
first_zero-is bytes None none = before_zero-all bytes (λ k l. none k (omega arith) l)
first_zero-is bytes (Some i) first =
    (first.0.high, before_zero-take bytes i first.0.high (λ k l. first.0.before k (omega arith) l) first.1)

-- what stands before an early zero, of the front alone
pub before_zero-early : (m k : ℕ) (bytes : List ℕ) → before_zero bytes ≡ take k bytes → k < length bytes → k < m
    → before_zero (take m bytes) ≡ take k bytes
before_zero-early zero k bytes is within l = absurd (omega arith)
before_zero-early (suc m) k [] is within l = absurd (omega arith)
before_zero-early (suc m) zero (b ∷ bytes) is within l = step (b == 0) is
  where
    step : (ends : Bool) → cond ends [] (b ∷ before_zero bytes) ≡ [] → cond ends [] (b ∷ before_zero (take m bytes)) ≡ []
    step true h = refl
    step false h = absurd cc
before_zero-early (suc m) (suc k) (b ∷ bytes) is within l =
    step (b == 0) (λ rest. before_zero-early m k bytes rest (omega arith) (omega arith)) is
  where
    step : (ends : Bool) → (before_zero bytes ≡ take k bytes → before_zero (take m bytes) ≡ take k bytes)
        → cond ends [] (b ∷ before_zero bytes) ≡ b ∷ take k bytes
        → cond ends [] (b ∷ before_zero (take m bytes)) ≡ b ∷ take k bytes
    step true early h = absurd cc
    step false early h =
        let rest : before_zero bytes ≡ take k bytes = cc in
        ap (λ (xs : List ℕ). b ∷ xs) (early rest)

-- what stands before the first zero is no longer
pub length-before_zero : (bytes : List ℕ) → length (before_zero bytes) ≤ length bytes
length-before_zero [] = omega arith
length-before_zero (b ∷ bytes) = shorter (b == 0) (length-before_zero bytes)
  where
    shorter : (test : Bool) → length (before_zero bytes) ≤ length bytes
        → length (cond test [] (b ∷ before_zero bytes)) ≤ suc (length bytes)
    shorter true rest = omega arith
    shorter false rest = omega arith

-- a test that told nothing failed
told : {X : Type 0} (test : Bool) (x : X) → None ≡ cond test (Some x) None → test ≡ false
told true x e = absurd cc
told false x e = refl

-- without a zero and without a difference there is no text
pub text_in-untold : (room at : ℕ) (bytes key : List ℕ) (order : Ordering)
    → None ≡ cond (nat_lt (shared bytes key) (length bytes)) (Some order) None
    → text_in room at bytes ≡ Err (unended room at bytes)
text_in-untold room at bytes key order e =
    let reach = common_prefix_len-le nat_eq (before_zero bytes) key in
    let untold = told (nat_lt (shared bytes key) (length bytes)) order e in
    let whole = ltb-false (shared bytes key) (length bytes) untold in
    rw (le-ltb (length (before_zero bytes)) (length bytes) (omega arith)) refl
