-- The order of a text against a key, by the bytes where they stop to be equal.
use Rattle.std.proofs.Common.{◌≡◌, ℕ, suc, ◌+◌, ◌<◌, ◌==◌, ◌||◌, nat_lt, Bool, true, false, cond, List, [], ◌∷◌, length, get_or, take, drop}
use Rattle.std.proofs.Common.{Ordering, refl, sym, ap, ◌∙◌, arith}
use Rattle.std.specs.Ordering.{nat_cmp, ordering_then}
use Rattle.std.specs.Cmp.Lexicographic.{slice_cmp}
use Rattle.std.specs.declared.cmp.Ordering.TheVariants.{Less, Equal, Greater}
use Rattle.std.proofs.Math.ListN.{drop_of_length-le}
use Rattle.std.proofs.Math.Seq.{drop-cons}
use Rattle.std.proofs.lemmas.Bool.Decides.{nat_tests}
use Rattle.std.proofs.lemmas.List.{get_or-drop, get_or-take, length-take}
use Rattle.mime_base.specs.Cache.Texts.{before_zero, shared}
use Rattle.mime_base.proofs.CacheLemmas.Stops.{shared-first, shared-on}

-- the order of a text that begins with this byte, where it and a key are equal no further
abbrev stopped : ℕ → List ℕ → Ordering
stopped b [] = cond (b == 0) Equal Greater
stopped b (y ∷ _) = cond (b == 0 || nat_lt b y) Less Greater

-- where the first byte stops, it gives the order
order-first : (b : ℕ) (xs ys : List ℕ) → shared (b ∷ xs) ys ≡ 0 → slice_cmp nat_cmp (before_zero (b ∷ xs)) ys ≡ stopped b ys
order-first b xs [] none = step (b == 0)
  where
    step : (ends : Bool) → slice_cmp nat_cmp (cond ends [] (b ∷ before_zero xs)) [] ≡ cond ends Equal Greater
    step true = refl
    step false = refl
order-first b xs (y ∷ ys) none = step (b == 0) (b == y) refl (omega (arith, shared-first b y xs ys))
  where
    later : (less : Bool) (order : Ordering) → ordering_then (cond less Less Greater) order ≡ cond less Less Greater
    later true order = refl
    later false order = refl

    step : (ends same : Bool) → (b == y) ≡ same → cond ends 0 (cond same (1 + shared xs ys) 0) ≡ 0 →
        slice_cmp nat_cmp (cond ends [] (b ∷ before_zero xs)) (y ∷ ys) ≡ cond (ends || nat_lt b y) Less Greater
    step true same e none = refl
    step false true e none = absurd (omega arith)
    step false false e none = rw e (later (nat_lt b y) (slice_cmp nat_cmp (before_zero xs) ys))

-- where a later byte stops, it gives the order
order-stopped : (room k : ℕ) (bytes ys : List ℕ) → k ≡ shared (take room bytes) ys → k < length (take room bytes) →
    slice_cmp nat_cmp (before_zero (take room bytes)) ys ≡ stopped (get_or bytes k 0) (drop k ys)
order-stopped room k bytes ys is within =
    let xs = take room bytes in
    let on = shared-on k xs ys (omega arith) in
    let split = drop-cons xs k 0 within in
    let none : shared (get_or xs k 0 ∷ drop (suc k) xs) (drop k ys) ≡ 0 = omega (arith, is, rw split at on.0) in
    sym on.1 ∙ ap (λ (rest : List ℕ). slice_cmp nat_cmp (before_zero rest) (drop k ys)) split
    ∙ order-first (get_or xs k 0) (drop (suc k) xs) (drop k ys) none
    ∙ ap (λ (b : ℕ). stopped b (drop k ys)) (get_or-take room bytes k 0 (omega (arith, length-take room bytes)))

-- where the key ends
pub order-ended : (room k : ℕ) (bytes ys : List ℕ) → k ≡ shared (take room bytes) ys → k < length (take room bytes) →
    k ≡ length ys → slice_cmp nat_cmp (before_zero (take room bytes)) ys ≡ cond (get_or bytes k 0 == 0) Equal Greater
order-ended room k bytes ys is within ends =
    order-stopped room k bytes ys is within ∙ ap (stopped (get_or bytes k 0)) (drop_of_length-le ys {i = k} (omega arith))

-- where the key has a byte there
pub order-inside : (room k : ℕ) (bytes ys : List ℕ) → k ≡ shared (take room bytes) ys → k < length (take room bytes) →
    k < length ys → slice_cmp nat_cmp (before_zero (take room bytes)) ys
    ≡ cond (get_or bytes k 0 == 0 || nat_lt (get_or bytes k 0) (get_or ys k 0)) Less Greater
order-inside room k bytes ys is within below =
    order-stopped room k bytes ys is within ∙ ap (stopped (get_or bytes k 0)) (drop-cons ys k 0 below)

-- bytes that differ give the order, where a key has zeros after its end
stopped-differs : (b : ℕ) (ys : List ℕ) → (b ≡ get_or ys 0 0 → ⊥) → stopped b ys ≡ nat_cmp b (get_or ys 0 0)
stopped-differs b [] differs = grind (arith, nat_tests)
stopped-differs b (y ∷ ys) differs = grind (arith, nat_tests)

-- where the bytes of both differ
pub order-differs : (room k : ℕ) (bytes ys : List ℕ) → k ≡ shared (take room bytes) ys → k < length (take room bytes) →
    (get_or bytes k 0 ≡ get_or ys k 0 → ⊥) →
    slice_cmp nat_cmp (before_zero (take room bytes)) ys ≡ nat_cmp (get_or bytes k 0) (get_or ys k 0)
order-differs room k bytes ys is within differs =
    let first : get_or (drop k ys) 0 0 ≡ get_or ys k 0 = get_or-drop k ys 0 0 ∙ ap (λ (i : ℕ). get_or ys i 0) (omega arith) in
    order-stopped room k bytes ys is within
    ∙ stopped-differs (get_or bytes k 0) (drop k ys) (λ e. differs (e ∙ first))
    ∙ ap (nat_cmp (get_or bytes k 0)) first
