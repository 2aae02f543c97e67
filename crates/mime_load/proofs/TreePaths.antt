-- The paths of a tree's leaves and other nodes, and what is one of them.
use Rattle.std.proofs.Common.{◌≡◌, ℕ, ◌+◌, Bool, true, false, ◌&&◌, ◌||◌, eqb, List, [], ◌∷◌, ◌++◌}
use Rattle.std.proofs.Common.{length, map, refl, sym, ap, ◌∙◌, arith, bytes_eq, length-append, ⊎_elim}
use Rattle.std.specs.List.{AllByRecursion, flat_map}
use Rattle.std.specs.Set.{is_member}
use Rattle.std.proofs.lemmas.Bool.{cases_Bool}
use Rattle.std.proofs.lemmas.List.{length-map}
use Rattle.std.proofs.lemmas.List.Folds.{list_any-append}
use Rattle.mime_base.specs.Format.SuffixTree.{fronts}
use Rattle.mime_base.specs.Format.Tree.{Tree, bare, leaf, leaf_count, node, node_count}

-- what is no member differs from each
pub apart : (x : List ℕ) (ys : List (List ℕ)) → is_member bytes_eq ys x ≡ false → AllByRecursion (λ y. bytes_eq x y ≡ false) ys
apart x [] h = tt
apart x (y ∷ ys) h =
    ⊎_elim (λ (e : bytes_eq x y ≡ true). absurd (let bad : true ≡ false = sym (ap (λ (t : Bool). t || is_member bytes_eq ys x) e) ∙ h in
    cc))
    (λ (e : bytes_eq x y ≡ false). (e, apart x ys (sym (ap (λ (t : Bool). t || is_member bytes_eq ys x) e) ∙ h)))
    (cases_Bool (bytes_eq x y))

-- what differs from each is no member
pub lacks : (x : List ℕ) (ys : List (List ℕ)) → AllByRecursion (λ y. bytes_eq x y ≡ false) ys → is_member bytes_eq ys x ≡ false
lacks x [] h = refl
lacks x (y ∷ ys) h = rw h.0 (lacks x ys h.1)

-- the paths of the leaves
abbrev pub paths : Tree → List (List ℕ)
paths bare = []
paths (leaf rule rest) = [] ∷ paths rest
paths (node character below rest) = map (λ p. character ∷ p) (paths below) ++ paths rest

-- the paths of the nodes that are no leaves
abbrev pub nodes_at : Tree → List (List ℕ)
nodes_at bare = []
nodes_at (leaf rule rest) = nodes_at rest
nodes_at (node character below rest) = (character ∷ []) ∷ (map (λ p. character ∷ p) (nodes_at below) ++ nodes_at rest)

-- nodes are leaves or no leaves
pub node_count-is : (tree : Tree) → node_count tree ≡ leaf_count tree + length (nodes_at tree)
node_count-is bare = refl
node_count-is (leaf rule rest) = omega (arith, node_count-is rest)
node_count-is (node character below rest) =
    omega (
      arith,
      node_count-is below,
      node_count-is rest,
      length-append (map (λ (p : List ℕ). character ∷ p) (nodes_at below)) (nodes_at rest),
      length-map (nodes_at below) (λ (p : List ℕ). character ∷ p),
    )

-- a path is one of some with a byte in front
pub member_map : (x y : ℕ) (p : List ℕ) (zs : List (List ℕ))
    → is_member bytes_eq (map (λ q. y ∷ q) zs) (x ∷ p) ≡ (eqb x y && is_member bytes_eq zs p)
member_map x y p [] = elim (eqb x y) as (λ t. false ≡ (t && false)) [ true ↦ refl | false ↦ refl ]
member_map x y p (z ∷ zs) =
    rw (member_map x y p zs)
    (elim (eqb x y) as (λ t. ((t && bytes_eq p z) || (t && is_member bytes_eq zs p)) ≡
    (t && (bytes_eq p z || is_member bytes_eq zs p))) [ true ↦ refl | false ↦ refl ])

-- no path with a byte in front is empty
none_empty : (y : ℕ) (zs : List (List ℕ)) → is_member bytes_eq (map (λ q. y ∷ q) zs) [] ≡ false
none_empty y [] = refl
none_empty y (z ∷ zs) = none_empty y zs

-- no node's path is empty
pub nodes_nonempty : (tree : Tree) → is_member bytes_eq (nodes_at tree) [] ≡ false
nodes_nonempty bare = refl
nodes_nonempty (leaf rule rest) = nodes_nonempty rest
nodes_nonempty (node character below rest) =
    list_any-append (bytes_eq []) (map (λ p. character ∷ p) (nodes_at below)) (nodes_at rest)
    ∙ ap (λ (t : Bool). t || is_member bytes_eq (nodes_at rest) []) (none_empty character (nodes_at below)) ∙ nodes_nonempty rest

-- no front is empty
front_nonempty : (k : List ℕ) → is_member bytes_eq (fronts k) [] ≡ false
front_nonempty [] = refl
front_nonempty (x ∷ k) = none_empty x (fronts k)

-- nor one of some paths
pub fronts_nonempty : (ps : List (List ℕ)) → is_member bytes_eq (flat_map fronts ps) [] ≡ false
fronts_nonempty [] = refl
fronts_nonempty (p ∷ ps) =
    list_any-append (bytes_eq []) (fronts p) (flat_map fronts ps)
    ∙ ap (λ (t : Bool). t || is_member bytes_eq (flat_map fronts ps) []) (front_nonempty p) ∙ fronts_nonempty ps

-- whether there are some paths
abbrev pub some : List (List ℕ) → Bool
some [] = false
some (p ∷ ps) = true

-- tests of the step below
tests : (t e m n f : Bool) → (((t && e) || (t && m)) || (t && ((e && n) || f))) ≡ (t && ((e && true) || (m || f)))
tests false e m n f = refl
tests true true m n f = refl
tests true false true n f = refl
tests true false false n f = refl

-- what is a front of paths with a byte in front
pub member_under : (x y : ℕ) (p : List ℕ) (ps : List (List ℕ)) → is_member bytes_eq (flat_map fronts (map (λ q. y ∷ q) ps)) (x ∷ p)
    ≡ (eqb x y && ((bytes_eq p [] && some ps) || is_member bytes_eq (flat_map fronts ps) p))
member_under x y p [] =
    elim (eqb x y) as (λ t. false ≡ (t && ((bytes_eq p [] && false) || false))) [
      | true ↦ elim (bytes_eq p []) as (λ t. false ≡ ((t && false) || false)) [ true ↦ refl | false ↦ refl ]
      | false ↦ refl
    ]
member_under x y p (k ∷ ps) =
    list_any-append (bytes_eq (x ∷ p)) (fronts (y ∷ k)) (flat_map fronts (map (λ q. y ∷ q) ps))
    ∙ ap (λ (t : Bool). ((eqb x y && bytes_eq p []) || t) || is_member bytes_eq (flat_map fronts (map (λ q. y ∷ q) ps)) (x ∷ p))
    (member_map x y p (fronts k))
    ∙ ap (λ (t : Bool). ((eqb x y && bytes_eq p []) || (eqb x y && is_member bytes_eq (fronts k) p)) || t) (member_under x y p ps)
    ∙ tests (eqb x y) (bytes_eq p []) (is_member bytes_eq (fronts k) p) (some ps) (is_member bytes_eq (flat_map fronts ps) p)
    ∙ ap (λ (t : Bool). eqb x y && ((bytes_eq p [] && true) || t)) (sym (list_any-append (bytes_eq p) (fronts k) (flat_map fronts ps)))
