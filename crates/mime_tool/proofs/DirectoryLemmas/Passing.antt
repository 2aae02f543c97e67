-- Which of a list passes a test, by the index of a loop.
use Rattle.std.proofs.Common.{◌≡◌, ◌+◌, ◌<◌, ℕ, Bool, true, false, List, [], ◌∷◌, ◌++◌, Bor, Option, Some, None}
use Rattle.std.proofs.Common.{drop, get_or, inl, inr, length, refl, subst, sym, take}
use Rattle.std.proofs.lemmas.Bool.{false≢true}
use Rattle.clap.specs.Walk.{texts}
use Rattle.mime_tool.specs.Directories.{FirstPasses, OnePasses}
use Rattle.mime_tool.proofs.RunLemmas.Texts.{texts-more, texts-split}

-- ---- one of a list

module _ {X : Type 0} (Passes : X → Bool → Type 0) where
  -- one passes, or none
  first_or : (x : X) (xs : List X) → (is : Bool) × Passes x is → (one : Bool) × OnePasses Passes xs one
      → (one : Bool) × OnePasses Passes (x ∷ xs) one
  first_or x xs (true, p) rest = (true, inl (p, refl))
  first_or x xs (false, p) rest = (rest.0, inr (p, rest.1))

  -- of each it can be told whether it passes, so of one of all
  pub can_pass : ((x : X) → (is : Bool) × Passes x is) → (xs : List X) → (one : Bool) × OnePasses Passes xs one
  can_pass can [] = (false, refl)
  can_pass can (x ∷ xs) = first_or x xs (can x) (can_pass can xs)

  -- none of the first passes
  pub passes_after : (xs ys : List X) (one : Bool) → OnePasses Passes xs false → OnePasses Passes ys one → OnePasses Passes (xs ++ ys) one
  passes_after [] ys one p q = q
  passes_after (x ∷ xs) ys one (inl p) q = absurd (false≢true p.1)
  passes_after (x ∷ xs) ys one (inr p) q = inr (p.0, passes_after xs ys one p.1 q)

-- ---- the first of a list

module _ {X : Type 0} (Passes : X → Bool → Type 0) where
  -- it is this one, or one of the others
  this_or : (x : X) (xs : List X) → (is : Bool) × Passes x is → (first : Option X) × FirstPasses Passes xs first
      → (first : Option X) × FirstPasses Passes (x ∷ xs) first
  this_or x xs (true, p) rest = (Some x, inl (p, refl))
  this_or x xs (false, p) rest = (rest.0, inr (p, rest.1))

  -- of each it can be told whether it passes, so which is the first
  pub can_be_first : ((x : X) → (is : Bool) × Passes x is) → (xs : List X) → (first : Option X) × FirstPasses Passes xs first
  can_be_first can [] = (None, refl)
  can_be_first can (x ∷ xs) = this_or x xs (can x) (can_be_first can xs)

  -- none of those before passes
  pub first_after : (xs ys : List X) (first : Option X) → FirstPasses Passes xs None → FirstPasses Passes ys first
      → FirstPasses Passes (xs ++ ys) first
  first_after [] ys first p q = q
  first_after (x ∷ xs) ys first (inl p) q = absurd (none_some p.1)
    where
      none_some : None ≡ Some x → ⊥
      none_some e = cc
  first_after (x ∷ xs) ys first (inr p) q = inr (p.0, first_after xs ys first p.1 q)

-- ---- by the index of a loop

-- one more doesn't pass
pub none_more_at : (Passes : List ℕ → Bool → Type 0) (names : List (Bor (List ℕ))) (i : ℕ) (n : Bor (List ℕ)) (is : Bool) → i < length names
    → OnePasses Passes (texts (take i names)) false → Passes (get_or names i n).now is → is ≡ false
    → OnePasses Passes (texts (take (i + 1) names)) false
none_more_at Passes names i n is lt none p fails =
    subst (λ (xs : List (List ℕ)). OnePasses Passes xs false) (sym (texts-more names i n lt))
    (passes_after Passes (texts (take i names)) ((get_or names i n).now ∷ []) false none
    (inr (subst (Passes (get_or names i n).now) fails p, refl)))

-- one more isn't the first
pub no_first_at : (Passes : List ℕ → Bool → Type 0) (names : List (Bor (List ℕ))) (i : ℕ) (n : Bor (List ℕ)) (is : Bool) → i < length names
    → FirstPasses Passes (texts (take i names)) None → Passes (get_or names i n).now is → is ≡ false
    → FirstPasses Passes (texts (take (i + 1) names)) None
no_first_at Passes names i n is lt none p fails =
    subst (λ (xs : List (List ℕ)). FirstPasses Passes xs None) (sym (texts-more names i n lt))
    (first_after Passes (texts (take i names)) ((get_or names i n).now ∷ []) None none
    (inr (subst (Passes (get_or names i n).now) fails p, refl)))

-- this is the first
pub first_at : (Passes : List ℕ → Bool → Type 0) (names : List (Bor (List ℕ))) (i : ℕ) (n : Bor (List ℕ)) (is : Bool) → i < length names
    → FirstPasses Passes (texts (take i names)) None → Passes (get_or names i n).now is → is ≡ true
    → FirstPasses Passes (texts names) (Some (get_or names i n).now)
first_at Passes names i n is lt none p passes =
    subst (λ (xs : List (List ℕ)). FirstPasses Passes xs (Some (get_or names i n).now)) (sym (texts-split names i n lt))
    (first_after Passes (texts (take i names)) ((get_or names i n).now ∷ texts (drop (i + 1) names)) (Some (get_or names i n).now) none
    (inl (subst (Passes (get_or names i n).now) passes p, refl)))

-- one passes
pub one_at : (Passes : List ℕ → Bool → Type 0) (names : List (Bor (List ℕ))) (i : ℕ) (n : Bor (List ℕ)) (is : Bool) → i < length names
    → OnePasses Passes (texts (take i names)) false → Passes (get_or names i n).now is → is ≡ true → OnePasses Passes (texts names) true
one_at Passes names i n is lt none p passes =
    subst (λ (xs : List (List ℕ)). OnePasses Passes xs true) (sym (texts-split names i n lt))
    (passes_after Passes (texts (take i names)) ((get_or names i n).now ∷ texts (drop (i + 1) names)) true none
    (inl (subst (Passes (get_or names i n).now) passes p, refl)))
