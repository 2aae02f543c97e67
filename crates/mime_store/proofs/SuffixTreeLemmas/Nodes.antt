-- The nodes of paths that rise are their leaves and their distinct endings.
use Rattle.std.proofs.Common.{◌≡◌, ℕ, suc, ◌+◌, ◌<◌, ◌≤◌, true, false, ◌&&◌, ◌||◌, cond, eqb, List, [], ◌∷◌, ◌⊎◌}
use Rattle.std.proofs.Common.{inl, inr, ⊎_elim, length, refl, sym, subst, ◌∙◌, arith}
use Rattle.std.proofs.lemmas.Bool.{eq-eqb, ne_eqb}
use Rattle.mime_store.specs.SuffixTree.{PathRule, PathLe, Rises, common, nodes}
use Rattle.mime_base.specs.Format.SuffixTree.{fronts}
use Rattle.mime_store.proofs.SuffixTreeLemmas.Distinct.{paths, all_fronts, endings_count, missing, missing-map, missing-alike}
use Rattle.mime_store.proofs.SuffixTreeLemmas.Distinct.{distinct_append, fronts_distinct, begins, has, missing_members}

-- what is after x in the paths that begin with it
abbrev tails : ℕ → List (List ℕ) → List (List ℕ)
tails x [] = []
tails x ([] ∷ rs) = tails x rs
tails x ((y ∷ r) ∷ rs) = cond (eqb x y) (r ∷ tails x rs) (tails x rs)

-- what begins with a byte, by what comes after that
has_tails : (x : ℕ) (p : List ℕ) (rs : List (List ℕ)) → has (x ∷ p) rs ≡ has p (tails x rs)
has_tails x p [] = refl
has_tails x p ([] ∷ rs) = has_tails x p rs
has_tails x p ((y ∷ r) ∷ rs) =
    rw (has_tails x p rs)
    (elim (eqb x y) as (λ t. ((t && begins p r) || has p (tails x rs)) ≡ has p
    (cond t (r ∷ tails x rs) (tails x rs))) [ true ↦ refl | false ↦ refl ])

-- the paths rise
abbrev Up : List ℕ → List (List ℕ) → Type 0
Up before [] = Unit {0}
Up before (r ∷ rs) = PathLe before r × Up r rs

-- no later path begins with a lesser byte
none_tails : (x y : ℕ) (r : List ℕ) (rs : List (List ℕ)) → x < y → Up (y ∷ r) rs → tails x rs ≡ []
none_tails x y r [] lt h = refl
none_tails x y r ([] ∷ rs) lt h = absurd h.0
none_tails x y r ((z ∷ s) ∷ rs) lt h =
    let lt' : x < z = ⊎_elim (λ (l : y < z). omega (arith, l)) (λ s. omega (arith, s.0)) h.0 in
    rw (ne_eqb x z (λ e. omega (arith, e))) (none_tails x z s rs lt' h.1)

-- how far the first of some paths agrees
abbrev next_common : List ℕ → List (List ℕ) → ℕ
next_common k [] = 0
next_common k (r ∷ rs) = common k r

-- rising paths rise after their first byte
up_tails : (x : ℕ) (k : List ℕ) (rs : List (List ℕ)) → Up (x ∷ k) rs → Up k (tails x rs)
up_tails x k [] h = tt
up_tails x k ([] ∷ rs) h = absurd h.0
up_tails x k ((y ∷ r) ∷ rs) h =
    ⊎_elim (λ (lt : x < y). rw (ne_eqb x y (λ e. omega (arith, e, lt)), none_tails x y r rs lt h.1) tt)
    (λ s. rw (eq-eqb x y s.0) (s.1, up_tails x r rs (subst (λ (z : ℕ). Up (z ∷ r) rs) (sym s.0) h.1))) h.0

-- how far the next path agrees, by what comes after the first byte
next_tails : (x : ℕ) (k : List ℕ) (rs : List (List ℕ)) → Up (x ∷ k) rs
    → ((next_common (x ∷ k) rs ≡ next_common k (tails x rs) + 1) × (has [] (tails x rs) ≡ true))
    ⊎ ((next_common (x ∷ k) rs ≡ 0) × (tails x rs ≡ []))
next_tails x k [] h = inr (refl, refl)
next_tails x k ([] ∷ rs) h = absurd h.0
next_tails x k ((y ∷ r) ∷ rs) h =
    ⊎_elim (λ (lt : x < y). inr (
      rw (ne_eqb x y (λ e. omega (arith, e, lt))) refl,
      rw (ne_eqb x y (λ e. omega (arith, e, lt)), none_tails x y r rs lt h.1) refl,
    ))
    (λ s. inl (rw (eq-eqb x y s.0) refl, rw (eq-eqb x y s.0) refl)) h.0

-- the fronts of k that no later path has
missing_fronts : (k : List ℕ) (rs : List (List ℕ)) → Up k rs → missing (λ p. has p rs) (fronts k) + next_common k rs ≡ length k
missing_fronts [] [] h = refl
missing_fronts [] (r ∷ rs) h = refl
missing_fronts (x ∷ k) rs h =
    let ts = tails x rs in
    let ih = missing_fronts k ts (up_tails x k rs h) in
    let split = missing-map x (λ p. has p rs) ([] ∷ fronts k)
    ∙ missing-alike (λ p. has (x ∷ p) rs) (λ p. has p ts) ([] ∷ fronts k) (λ p. has_tails x p rs) in
    ⊎_elim (λ s. let one : ◌≡◌ {A = ℕ} (cond (has [] ts) 0 1) 0 = rw s.1 refl in omega (arith, split, ih, s.0, one))
    (λ s. let one : ◌≡◌ {A = ℕ} (cond (has [] ts) 0 1) 1 = rw s.1 refl in let none : next_common k ts ≡ 0 = rw s.1 refl in
    omega (arith, split, ih, s.0, one, none))
    (next_tails x k rs h)

-- the paths of rising entries rise
up_paths : (before : List ℕ) (es : List PathRule) → Rises before es → Up before (paths es)
up_paths before [] h = tt
up_paths before (e ∷ es) h = (h.0, up_paths e.0 es h.2)

-- a common front is no longer than the second path
common_le : (xs ys : List ℕ) → common xs ys ≤ length ys
common_le [] ys = omega arith
common_le (x ∷ xs) [] = omega arith
common_le (x ∷ xs) (y ∷ ys) =
    let ih = common_le xs ys in
    elim (eqb x y) as (λ t. cond t (common xs ys + 1) 0 ≤ suc (length ys)) [ true ↦ omega (arith, ih) | false ↦ omega arith ]

-- the nodes of rising entries are their leaves and their distinct fronts
nodes_from : (before : List ℕ) (es : List PathRule) → Rises before es
    → nodes before es + next_common before (paths es) ≡ length es + endings_count es
nodes_from before [] h = refl
nodes_from before (e ∷ es) h =
    let ih = nodes_from e.0 es h.2 in
    let split = distinct_append (fronts e.0) (all_fronts es) (fronts_distinct e.0) in
    let few = missing_members e.0 es in
    let long = missing_fronts e.0 (paths es) (up_paths e.0 es h.2) in
    omega (arith, ih, split, few, long, common_le before e.0)

-- as many nodes as leaves and distinct endings
pub nodes_are : (es : List PathRule) → Rises [] es → nodes [] es ≡ length es + endings_count es
nodes_are [] h = refl
nodes_are (e ∷ es) h = let r = nodes_from [] (e ∷ es) h in omega (arith, r)
