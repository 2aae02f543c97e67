-- A walk along a path down the suffix tree: what it meets, and how many records it visits.
use Rattle.std.proofs.Common.{◌≡◌, ℕ, ◌+◌, ◌<◌, ◌≤◌, ◌==◌, Bool, true, false, cond, List, [], ◌∷◌, ◌++◌, length, map}
use Rattle.std.proofs.Common.{refl, sym, ap, ap₂, ◌∙◌, arith, inl, inr, length-append}
use Rattle.std.specs.List.{flat_map}
use Rattle.std.proofs.lemmas.Bool.{cases_lt, eqb-true}
use Rattle.std.proofs.lemmas.List.{append-nil}
use Rattle.std.proofs.lemmas.List.Concat.{flat_map-cons}
use Rattle.std.proofs.lemmas.List.Folds.{flat_map-map}
use Rattle.mime_base.specs.Format.SuffixTree.{fronts}
use Rattle.mime_base.specs.Format.Tree.{InOrder, Tree, bare, leaf, leaves_at, node, node_count}
use Rattle.mime_base.specs.declared.database.rule.GlobRule.{GlobRule}
use Rattle.mime_view.specs.SuffixTree.{below_character, scan_visits}
use Rattle.mime_view.proofs.SuffixTreeLemmas.TreeBlocks.{below_character-past}

-- the rules of the leaves at the ends of the non-empty fronts of a path, the shortest first
abbrev pub leaves_along : List ℕ → Tree → List GlobRule
leaves_along path tree = flat_map (λ front. leaves_at front tree) (fronts path)

-- no leaves where there are no siblings
leaves_at-bare : (path : List ℕ) → leaves_at path bare ≡ []
leaves_at-bare [] = refl
leaves_at-bare (b ∷ path) = refl

-- the leaves at a path are those at the rest of the path, below its first character
pub leaves_at-below : (b before : ℕ) (path : List ℕ) (tree : Tree) → InOrder before tree
    → leaves_at (b ∷ path) tree ≡ leaves_at path (below_character b tree)
leaves_at-below b before path bare order = sym (leaves_at-bare path)
leaves_at-below b before path (leaf rule rest) order = leaves_at-below b before path rest order.1
leaves_at-below b before path (node character below rest) order =
    by_first (character == b) refl (leaves_at-below b character path rest order.3)
  where
    by_first : (same : Bool) → (character == b) ≡ same → leaves_at (b ∷ path) rest ≡ leaves_at path (below_character b rest)
        → cond same (leaves_at path below) [] ++ leaves_at (b ∷ path) rest ≡ leaves_at path (cond same below (below_character b rest))
    by_first true is later =
        let e : character ≡ b = eqb-true character b is in
        let none = below_character-past b character rest (omega arith) order.3 in
        ap (λ more. leaves_at path below ++ more) (later ∙ ap (leaves_at path) none ∙ leaves_at-bare path)
        ∙ append-nil (leaves_at path below)
    by_first false is later = later

-- what is below a character is in order
pub below_ordered : (b before : ℕ) (tree : Tree) → InOrder before tree → InOrder 0 (below_character b tree)
below_ordered b before bare order = order
below_ordered b before (leaf rule rest) order = below_ordered b before rest order.1
below_ordered b before (node character below rest) order = by_first (character == b) (below_ordered b character rest order.3)
  where
    by_first : (same : Bool) → InOrder 0 (below_character b rest) → InOrder 0 (cond same below (below_character b rest))
    by_first true later = order.2
    by_first false later = later

-- two functions that agree
pub flat_map-same : (f g : List ℕ → List GlobRule) → ((path : List ℕ) → f path ≡ g path) → (paths : List (List ℕ))
    → flat_map f paths ≡ flat_map g paths
flat_map-same f g same [] = refl
flat_map-same f g same (path ∷ paths) =
    flat_map-cons f path paths ∙ ap₂ (λ (a b : List GlobRule). a ++ b) (same path) (flat_map-same f g same paths)
    ∙ sym (flat_map-cons g path paths)

-- the same along a path
pub leaves_along-bare : (path : List ℕ) → leaves_along path bare ≡ []
leaves_along-bare path = none (fronts path)
  where
    none : (paths : List (List ℕ)) → flat_map (λ front. leaves_at front bare) paths ≡ []
    none [] = refl
    none (front ∷ paths) =
        flat_map-cons (λ front. leaves_at front bare) front paths
        ∙ ap₂ (λ (a b : List GlobRule). a ++ b) (leaves_at-bare front) (none paths)

-- the leaves below the first character, and those further down
pub leaves_along-below : (b : ℕ) (path : List ℕ) (tree : Tree) → InOrder 0 tree
    → leaves_along (b ∷ path) tree ≡ leaves_at [] (below_character b tree) ++ leaves_along path (below_character b tree)
leaves_along-below b path tree order =
    flat_map-cons (λ front. leaves_at front tree) (b ∷ []) (map (λ front. b ∷ front) (fronts path))
    ∙ ap₂ (λ (a b : List GlobRule). a ++ b) (leaves_at-below b 0 [] tree order)
    (flat_map-map (λ front. leaves_at front tree) (λ front. b ∷ front) (fronts path)
    ∙ flat_map-same _ _ (λ front. leaves_at-below b 0 front tree order) (fronts path))

-- how many records a walk visits
abbrev pub walk_visits : List ℕ → Tree → ℕ
walk_visits [] tree = 0
walk_visits (b ∷ path) tree = scan_visits (below_character b tree) + walk_visits path (below_character b tree)

-- a scan visits at most one more than there are leaves
scan_few : (tree : Tree) → scan_visits tree ≤ length (leaves_at [] tree) + 1
scan_few bare = omega arith
scan_few (leaf rule rest) = omega (arith, scan_few rest)
scan_few (node character below rest) = omega arith

-- and no more than there are nodes
scan_within : (tree : Tree) → scan_visits tree ≤ node_count tree
scan_within bare = omega arith
scan_within (leaf rule rest) = omega (arith, scan_within rest)
scan_within (node character below rest) = omega arith

-- the leaves here are among the nodes
leaves_within : (tree : Tree) → length (leaves_at [] tree) ≤ node_count tree
leaves_within bare = omega arith
leaves_within (leaf rule rest) = omega (arith, leaves_within rest)
leaves_within (node character below rest) = omega (arith, leaves_within rest)

-- a walk visits at most the leaves that it meets, and one more a character
pub walk_few : (path : List ℕ) (tree : Tree) → InOrder 0 tree → walk_visits path tree ≤ length (leaves_along path tree) + length path
walk_few [] tree order = omega arith
walk_few (b ∷ path) tree order =
    let below = below_character b tree in
    let met = ap (λ (met : List GlobRule). length met) (leaves_along-below b path tree order) in
    let sum = length-append (leaves_at [] below) (leaves_along path below) in
    omega (arith, met, sum, scan_few below, walk_few path below (below_ordered b 0 tree order))

-- leaves, a node and what is below it are different nodes
below_within : (b : ℕ) (tree : Tree) → 0 < node_count (below_character b tree)
    → length (leaves_at [] tree) + 1 + node_count (below_character b tree) ≤ node_count tree
below_within b bare some = absurd (omega arith)
below_within b (leaf rule rest) some = omega (arith, below_within b rest some)
below_within b (node character below rest) some = by_first (character == b) (below_within b rest) some
  where
    by_first : (same : Bool)
        → (0 < node_count (below_character b rest) → length (leaves_at [] rest) + 1 + node_count (below_character b rest) ≤ node_count rest)
        → 0 < node_count (cond same below (below_character b rest))
        → length (leaves_at [] rest) + 1 + node_count (cond same below (below_character b rest)) ≤ 1 + node_count below + node_count rest
    by_first true later some = omega (arith, leaves_within rest)
    by_first false later some = omega (arith, later some)

-- a scan and a walk visit no more than there are nodes
scan_and_walk : (path : List ℕ) (tree : Tree) → scan_visits tree + walk_visits path tree ≤ node_count tree
scan_and_walk [] tree = omega (arith, scan_within tree)
scan_and_walk (b ∷ path) tree =
    let below = below_character b tree in
    let later = scan_and_walk path below in
    elim (cases_lt 0 (node_count below)) [
      | inl some ↦ (omega (arith, later, below_within b tree some, scan_few tree))
      | inr none ↦ (omega (arith, later, scan_within tree))
    ]

-- a walk visits no node twice
pub walk_within : (path : List ℕ) (tree : Tree) → walk_visits path tree ≤ node_count tree
walk_within path tree = omega (arith, scan_and_walk path tree)
