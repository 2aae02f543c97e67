-- A key with zeros after it: they end its agreement with a text where its own end does.
use Rattle.std.proofs.Common.{◌≡◌, ℕ, zero, suc, ◌+◌, ◌<◌, ◌≤◌, ◌==◌, min, Bool, true, false, cond, List, [], ◌∷◌, ◌++◌}
use Rattle.std.proofs.Common.{length, get_or, take, drop, replicate, refl, sym, ap, ◌∙◌, arith, ne_eqb}
use Rattle.std.proofs.lemmas.List.{get_or-take, get_or-replicate, take-replicate, take-take}
use Rattle.mime_base.specs.Cache.Texts.{padded, shared}
use Rattle.mime_base.proofs.CacheLemmas.Stops.{shared-first, shared-front, shared-nil}

-- as many bytes are equal, with zeros after the key
shared-zeros : (n : ℕ) (xs ys : List ℕ) → shared xs (ys ++ replicate n 0) ≡ shared xs ys
shared-zeros n [] ys = refl
shared-zeros zero (x ∷ xs) [] = refl
shared-zeros (suc n) (x ∷ xs) [] = shared-first x 0 xs (replicate n 0) ∙ none (x == 0) ∙ sym (shared-nil (x ∷ xs))
  where
    none : (ends : Bool) → cond ends 0 (cond ends (1 + shared xs (replicate n 0)) 0) ≡ 0
    none true = refl
    none false = refl
shared-zeros n (x ∷ xs) (y ∷ ys) =
    shared-first x y xs (ys ++ replicate n 0)
    ∙ ap (λ (k : ℕ). cond (x == 0) 0 (cond (x == y) (1 + k) 0)) (shared-zeros n xs ys)
    ∙ sym (shared-first x y xs ys)

-- as many bytes of a text are equal to those of a padded key as to those of the key, as far as the padded ones go
pub shared-padded : (n room : ℕ) (xs ys front : List ℕ) → n ≤ room → front ≡ padded n ys →
    shared (take n xs) (take n front) ≡ min n (shared (take room xs) ys)
unfolding padded
shared-padded n room xs ys front wide is =
    let zeros = ys ++ replicate n 0 in
    let whole : take n front ≡ take n zeros = ap (take n) is ∙ take-take n n zeros (omega arith) in
    let window : shared (take n xs) (take n front) ≡ min n (shared xs ys) =
    ap (shared (take n xs)) whole ∙ shared-front n xs zeros ∙ ap (min n) (shared-zeros n xs ys) in
    let room_too : shared (take n (take room xs)) (take n ys) ≡ min n (shared (take room xs) ys) = shared-front n (take room xs) ys in
    let same : take n (take room xs) ≡ take n xs = take-take n room xs wide in
    omega (arith, window, shared-front n xs ys, ap (λ (zs : List ℕ). shared zs (take n ys)) same, room_too)

-- where the first bytes differ, none is shared
pub shared-none : (n : ℕ) (xs ys : List ℕ) → 0 < length xs → (get_or xs zero zero ≡ get_or ys zero zero → ⊥) → shared (take (suc n) xs) ys ≡ 0
shared-none n [] ys some differ = absurd (omega arith)
shared-none n (x ∷ xs) [] some differ = shared-nil (x ∷ take n xs)
shared-none n (x ∷ xs) (y ∷ ys) some differ =
    shared-first x y (take n xs) ys
    ∙ ap (λ (same : Bool). cond (x == 0) 0 (cond same (1 + shared (take n xs) ys) 0)) (ne_eqb x y differ) ∙ none (x == 0)
  where
    none : (ends : Bool) → cond ends zero zero ≡ zero
    none true = refl
    none false = refl

-- a byte of the padded key is the key's, or the zero that stands for one that it lacks
get_or-zeros : (n i : ℕ) (ys : List ℕ) → i < n → get_or (ys ++ replicate n 0) i 0 ≡ get_or ys i 0
get_or-zeros n i [] within = get_or-replicate n i 0 0 within
get_or-zeros n zero (y ∷ ys) within = refl
get_or-zeros n (suc i) (y ∷ ys) within = get_or-zeros n i ys (omega arith)

-- the same of its front
pub get_or-padded : (n i : ℕ) (ys : List ℕ) → i < n → get_or (padded n ys) i 0 ≡ get_or ys i 0
unfolding padded
get_or-padded n i ys within = get_or-take n (ys ++ replicate n 0) i 0 within ∙ get_or-zeros n i ys within

-- a key that is laid over zeros, and one with zeros after it
laid-zeros : (n m k : ℕ) (ys : List ℕ) → n ≤ m → k ≡ min (length ys) n →
    take k ys ++ drop k (replicate n 0) ≡ take n (ys ++ replicate m 0)
laid-zeros zero m zero ys l is = refl
laid-zeros zero m (suc k) ys l is = absurd (omega arith)
laid-zeros (suc n) m zero [] l is = sym (take-replicate (suc n) m 0 l)
laid-zeros (suc n) m (suc k) [] l is = absurd (omega arith)
laid-zeros (suc n) m zero (y ∷ ys) l is = absurd (omega arith)
laid-zeros (suc n) m (suc k) (y ∷ ys) l is = ap (λ (zs : List ℕ). y ∷ zs) (laid-zeros n m k ys (omega arith) (omega arith))

-- a key that is laid over zeros is padded
pub padded-laid : (n k : ℕ) (ys : List ℕ) → k ≡ min (length ys) n → take k ys ++ drop k (replicate n 0) ≡ padded n ys
unfolding padded
padded-laid n k ys is = laid-zeros n n k ys (omega arith) is
