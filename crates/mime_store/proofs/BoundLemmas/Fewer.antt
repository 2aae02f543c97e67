-- What is kept once is no more than all, and what a filter keeps is summed by cases.
use Rattle.std.proofs.Common.{◌≡◌, ℕ, ◌+◌, ◌≤◌, Bool, true, false, cond, List, [], ◌∷◌, length, sum_by, bytes_eq, arith, refl}
use Rattle.std.specs.List.{filter, flat_map}
use Rattle.std.specs.Set.{is_member, unique_keys}
use Rattle.std.proofs.lemmas.List.{length-append, length-map}
use Rattle.std.proofs.lemmas.List.Sums.{sum_by-cons}
use Rattle.mime_base.specs.Format.SuffixTree.{front_count, fronts}

-- the distinct members take no more than all
pub unique-sum : (f : List ℕ → ℕ) (xs : List (List ℕ)) → sum_by f (unique_keys bytes_eq xs) ≤ sum_by f xs
unique-sum f [] = omega arith
unique-sum f (x ∷ xs) =
    let rest = unique-sum f xs in
    let kept = unique_keys bytes_eq xs in
    elim (is_member bytes_eq xs x) as (λ t. sum_by f (cond t kept (x ∷ kept)) ≤ sum_by f (x ∷ xs)) [
      | true ↦ omega (arith, rest, sum_by-cons f x xs)
      | false ↦ omega (arith, rest, sum_by-cons f x xs, sum_by-cons f x kept)
    ]

-- there are no more distinct members than members
unique-length : (xs : List (List ℕ)) → length (unique_keys bytes_eq xs) ≤ length xs
unique-length [] = omega arith
unique-length (x ∷ xs) =
    let rest = unique-length xs in
    let kept = unique_keys bytes_eq xs in
    elim (is_member bytes_eq xs x) as (λ t. length (cond t kept (x ∷ kept)) ≤ length (x ∷ xs)) [
      | true ↦ omega (arith, rest)
      | false ↦ omega (arith, rest)
    ]

-- a path has a front for each of its bytes
length-fronts : (path : List ℕ) → length (fronts path) ≡ length path
length-fronts [] = refl
length-fronts (b ∷ path) = omega (arith, length-fronts path, length-map (fronts path) (λ front. b ∷ front))

-- paths have a front for each of their bytes
length-all_fronts : (paths : List (List ℕ)) → length (flat_map fronts paths) ≡ sum_by length paths
length-all_fronts [] = refl
length-all_fronts (path ∷ paths) =
    omega (
      arith,
      length-append (fronts path) (flat_map fronts paths),
      length-fronts path,
      length-all_fronts paths,
      sum_by-cons length path paths,
    )

-- paths have no more distinct fronts than bytes
pub front_count-few : (paths : List (List ℕ)) → front_count paths ≤ sum_by length paths
front_count-few paths = omega (arith, unique-length (flat_map fronts paths), length-all_fronts paths)

-- what a filter keeps of one member more
pub filter-sum : {X : Type 0} (f : X → ℕ) (p : X → Bool) (x : X) (xs : List X)
    → sum_by f (filter p (x ∷ xs)) ≡ cond (p x) (f x) 0 + sum_by f (filter p xs)
filter-sum f p x xs =
    elim (p x) as (λ t. sum_by f (cond t (x ∷ filter p xs) (filter p xs)) ≡ cond t (f x) 0 + sum_by f (filter p xs)) [
      | true ↦ sum_by-cons f x (filter p xs)
      | false ↦ omega arith
    ]
