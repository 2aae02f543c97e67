-- What a search for a subclass keeps: no path to the base is lost, since each leads through the queue.
use Rattle.std.proofs.Common.{◌≡◌, ◌⊎◌, ℕ, zero, suc, ◌<◌, ◌≤◌, Bool, true, false, IsTrue, List, [], ◌∷◌, length}
use Rattle.std.proofs.Common.{refl, sym, subst, inl, inr, ⊎_elim, arith}
use Rattle.std.specs.Prelude.{Contains}
use Rattle.std.proofs.lemmas.List.Elements.{Contains-append_left, Contains-append_right, Contains-append_cases}
use Rattle.mime_base.specs.Database.Subclass.{Pairs, above, is_by_itself, IsPath, IsA}
use Rattle.mime_lookup.specs.Ancestry.{Expanded, NoneLeadsTo}

-- the first is in the list
pub Contains-head : (x : List ℕ) (xs : List (List ℕ)) → Contains (x ∷ xs) x
Contains-head x xs = (0, omega arith, refl)

-- what is after the first is in the list
Contains-more : (x : List ℕ) (xs : List (List ℕ)) (q : List ℕ) → Contains xs q → Contains (x ∷ xs) q
Contains-more x xs q is = Contains-append_right (x ∷ []) xs q is

-- nothing is in an empty list
pub Contains-nil : (q : List ℕ) → Contains [] q → ⊥
Contains-nil q is = let none : is.0 < 0 = is.1 in omega arith

-- what is in a list of one is that one
pub Contains-only : (x q : List ℕ) → Contains (x ∷ []) q → x ≡ q
Contains-only x q (zero, within, same) = same
Contains-only x q (suc k, within, same) = absurd (omega (arith, within))

-- what is in a list is its first, or after it
Contains-cases : (x : List ℕ) (xs : List (List ℕ)) (q : List ℕ) → Contains (x ∷ xs) q → (x ≡ q) ⊎ Contains xs q
Contains-cases x xs q is =
    ⊎_elim (λ only. inl (Contains-only x q only)) (λ more. inr more) (Contains-append_cases (x ∷ []) xs q is)

-- some type of the queue is the base or a subclass of it
abbrev Open : Pairs → List ℕ → List (List ℕ) → Type 0
Open pairs base queue = (q : List ℕ) × Contains queue q × IsA pairs q base

-- some type of the queue is, by a path of fewer than n steps
abbrev OpenBelow : Pairs → List ℕ → List (List ℕ) → ℕ → Type 0
OpenBelow pairs base queue n =
    (q : List ℕ) × Contains queue q × ((path : List (List ℕ)) × (length path < n) × IsPath pairs q base path)

-- the start is a subclass only where the queue still leads there, each type of the queue is above the start, and a
-- marked type leads to the base only through the queue, by a shorter path
pub record Searched (pairs : Pairs) (base start : List ℕ) (marked : List ℕ → Bool) (queue : List (List ℕ)) : Type 0 where
  pub open_still : IsA pairs start base → Open pairs base queue
  pub sound : (q : List ℕ) → Contains queue q → IsA pairs q base → IsA pairs start base
  pub ahead : (x : List ℕ) (path : List (List ℕ)) → IsTrue (marked x) → IsPath pairs x base path → OpenBelow pairs base queue (length path)

-- at first no type is expanded, so none is marked that leads to the base
pub searched_start : (pairs : Pairs) (base start : List ℕ) (marked : List ℕ → Bool) → NoneLeadsTo marked pairs base →
    Searched pairs base start marked (start ∷ [])
searched_start pairs base start marked none = record {
  open_still = λ is_a. (start, Contains-head start [], is_a);
  sound = λ q has is_a. subst (λ (x : List ℕ). IsA pairs x base) (sym (Contains-only start q has)) is_a;
  ahead = λ x path is leads. absurd (none x is (path, leads));
}

-- the first type of the queue is the base
pub searched_found : (pairs : Pairs) (base start : List ℕ) (marked : List ℕ → Bool) (q : List ℕ) (queue : List (List ℕ)) →
    Searched pairs base start marked (q ∷ queue) → is_by_itself q base ≡ true → IsA pairs start base
searched_found pairs base start marked q queue so_far is = so_far.sound q (Contains-head q queue) ([], is)

-- no type is left
pub searched_all : (pairs : Pairs) (base start : List ℕ) (marked : List ℕ → Bool) → Searched pairs base start marked [] →
    (IsA pairs start base → ⊥) × NoneLeadsTo marked pairs base
searched_all pairs base start marked so_far = (
  (λ is_a. let left = so_far.open_still is_a in Contains-nil left.0 left.1),
  (λ x is is_a. let left = so_far.ahead x is_a.0 is is_a.1 in Contains-nil left.0 left.1),
)

-- the first type of the queue is not the base, and is expanded
module _ (pairs : Pairs) (base start : List ℕ) (before marked : List ℕ → Bool) (q : List ℕ) (queue after : List (List ℕ))
    (so_far : Searched pairs base start before (q ∷ queue)) (not_base : is_by_itself q base ≡ false)
    (expanded : Expanded pairs q before marked queue after) where
  -- what was in the queue still is
  kept : (x : List ℕ) → Contains queue x → Contains after x
  kept x is = rw expanded.grown (Contains-append_left queue expanded.more x is)

  -- what the expansion adds is in it
  came : (x : List ℕ) → Contains expanded.more x → Contains after x
  came x is = rw expanded.grown (Contains-append_right queue expanded.more x is)

  -- open below a number is open below a greater one
  weaker : (n k : ℕ) → n ≤ k → OpenBelow pairs base after n → OpenBelow pairs base after k
  weaker n k fewer left = (left.0, left.1, (left.2.0, omega (arith, left.2.1), left.2.2))

  -- where all above it came
  by_step : (path : List (List ℕ)) → expanded.more ≡ above pairs q → IsPath pairs q base path → OpenBelow pairs base after (length path)
  by_step [] all leads = absurd (cc (not_base, leads))
  by_step (next ∷ path) all leads = (next, came next (rw all leads.0), (path, omega arith, leads.1))

  -- a shorter path from the type that was taken leads through the queue
  through : (n : ℕ) (path : List (List ℕ)) → length path < n → IsPath pairs q base path → OpenBelow pairs base after (length path)
  through zero path within leads = absurd (omega arith)
  through (suc n) path within leads =
      ⊎_elim
      (λ all. by_step path all leads)
      (λ old.
      let left = so_far.ahead q path old.0 leads in
      ⊎_elim
      (λ here.
      weaker (length left.2.0) (length path) (omega (arith, left.2.1))
      (through n left.2.0 (omega (arith, left.2.1)) (subst (λ (x : List ℕ). IsPath pairs x base left.2.0) (sym here) left.2.2)))
      (λ there. (left.0, kept left.0 there, left.2))
      (Contains-cases q queue left.0 left.1))
      expanded.all_or_none

  -- what was open with that type is open without it
  widen : (n : ℕ) → OpenBelow pairs base (q ∷ queue) n → OpenBelow pairs base after n
  widen n left =
      ⊎_elim
      (λ here.
      weaker (length left.2.0) n (omega (arith, left.2.1))
      (through (suc (length left.2.0)) left.2.0 (omega arith) (subst (λ (x : List ℕ). IsPath pairs x base left.2.0) (sym here) left.2.2)))
      (λ there. (left.0, kept left.0 there, left.2))
      (Contains-cases q queue left.0 left.1)

  -- where the start is a subclass, the queue still leads to the base
  open_after : IsA pairs start base → Open pairs base after
  open_after is_a =
      let left = so_far.open_still is_a in
      let still = widen (suc (length left.2.0)) (left.0, left.1, (left.2.0, omega arith, left.2.1)) in
      (still.0, still.1, (still.2.0, still.2.2))

  -- what in the queue leads to the base makes the start a subclass
  sound_after : (x : List ℕ) → Contains after x → IsA pairs x base → IsA pairs start base
  sound_after x is is_a =
      ⊎_elim
      (λ old. so_far.sound x (Contains-more q queue x old) is_a)
      (λ new.
      ⊎_elim
      (λ all. so_far.sound q (Contains-head q queue) (x ∷ is_a.0, (rw all at new, is_a.1)))
      (λ none. absurd (Contains-nil x (rw none.1 at new)))
      expanded.all_or_none)
      (Contains-append_cases queue expanded.more x (rw expanded.grown at is))

  -- a marked type leads to the base by the queue alone, on a shorter path
  ahead_after : (x : List ℕ) (path : List (List ℕ)) → IsTrue (marked x) → IsPath pairs x base path →
      OpenBelow pairs base after (length path)
  ahead_after x path is leads =
      ⊎_elim
      (λ old. widen (length path) (so_far.ahead x path old leads))
      (λ new. by_step path new.1 (subst (λ (y : List ℕ). IsPath pairs y base path) new.0 leads))
      (expanded.marks x is)

  -- so the search goes on with the next type
  pub searched_more : Searched pairs base start marked after
  searched_more = record { open_still = open_after; sound = sound_after; ahead = ahead_after }
