-- The leaves of a tree with their paths, depth first.
use Rattle.std.proofs.Common.{◌≡◌, ℕ, ◌==◌, Bool, true, false, cond, List, [], ◌∷◌, ◌++◌, length}
use Rattle.std.proofs.Common.{map, refl, ap, ap₂, ◌∙◌, arith, bytes_eq, length-append}
use Rattle.std.proofs.lemmas.List.{map-append}
use Rattle.std.proofs.lemmas.List.Elements.{filter-append}
use Rattle.std.proofs.lemmas.Simd.{map-map}
use Rattle.mime_base.specs.Format.Sorted.{with_key}
use Rattle.mime_base.specs.Format.Tree.{Tree, bare, leaf, leaf_count, leaves_at, node, rules_in}
use Rattle.mime_base.specs.declared.database.rule.GlobRule.{GlobRule}

-- a path of characters, and the rule to which it leads
abbrev pub Leaf : Type 0
Leaf = List ℕ × GlobRule

-- its path
abbrev pub path_of : Leaf → List ℕ
path_of x = x.0

-- its rule
abbrev pub rule_of : Leaf → GlobRule
rule_of x = x.1

-- the same below a character
abbrev pub under : ℕ → Leaf → Leaf
under character x = (character ∷ x.0, x.1)

-- the leaves, depth first
abbrev pub leaves : Tree → List Leaf
leaves bare = []
leaves (leaf rule rest) = ([], rule) ∷ leaves rest
leaves (node character below rest) = map (under character) (leaves below) ++ leaves rest

-- their rules are those of the tree
pub rules-leaves : (tree : Tree) → map rule_of (leaves tree) ≡ rules_in tree
rules-leaves bare = refl
rules-leaves (leaf rule rest) = ap (λ (xs : List GlobRule). rule ∷ xs) (rules-leaves rest)
rules-leaves (node character below rest) =
    map-append rule_of (map (under character) (leaves below)) (leaves rest)
    ∙ ap₂ (λ (xs ys : List GlobRule). xs ++ ys) (map-map rule_of (under character) (leaves below) ∙ rules-leaves below) (rules-leaves rest)

-- there are as many as are counted
pub length-leaves : (tree : Tree) → length (map rule_of (leaves tree)) ≡ leaf_count tree
length-leaves bare = refl
length-leaves (leaf rule rest) = omega (arith, length-leaves rest)
length-leaves (node character below rest) =
    let both = ap (λ (xs : List GlobRule). length xs) (rules-leaves (node character below rest)) in
    let first = ap (λ (xs : List GlobRule). length xs) (rules-leaves below) in
    let last = ap (λ (xs : List GlobRule). length xs) (rules-leaves rest) in
    omega (arith, both, first, last, length-leaves below, length-leaves rest, length-append (rules_in below) (rules_in rest))

-- no leaf below a character is at the empty path
none_here : (character : ℕ) (xs : List Leaf) → with_key path_of [] (map (under character) xs) ≡ []
none_here character [] = refl
none_here character (x ∷ xs) = none_here character xs

-- below a character are those of the paths that begin with it
with_same : (character b : ℕ) (path : List ℕ) (xs : List Leaf) → (character == b) ≡ true
    → map rule_of (with_key path_of (b ∷ path) (map (under character) xs)) ≡ map rule_of (with_key path_of path xs)
with_same character b path [] is = refl
with_same character b path (x ∷ xs) is =
    rw is (elim (bytes_eq x.0 path) as (λ t.
    map rule_of (cond t (under character x ∷ with_key path_of (b ∷ path) (map (under character) xs))
    (with_key path_of (b ∷ path) (map (under character) xs)))
    ≡ map rule_of (cond t (x ∷ with_key path_of path xs) (with_key path_of path xs))) [
      | true ↦ ap (λ (rules : List GlobRule). x.1 ∷ rules) (with_same character b path xs is)
      | false ↦ with_same character b path xs is
    ])

-- below another character there are none
with_other : (character b : ℕ) (path : List ℕ) (xs : List Leaf) → (character == b) ≡ false
    → with_key path_of (b ∷ path) (map (under character) xs) ≡ []
with_other character b path [] is = refl
with_other character b path (x ∷ xs) is = rw is (with_other character b path xs is)

-- the leaves of a path are those at its end
pub leaves-at : (path : List ℕ) (tree : Tree) → map rule_of (with_key path_of path (leaves tree)) ≡ leaves_at path tree
leaves-at [] bare = refl
leaves-at (b ∷ path) bare = refl
leaves-at [] (leaf rule rest) = ap (λ (rules : List GlobRule). rule ∷ rules) (leaves-at [] rest)
leaves-at (b ∷ path) (leaf rule rest) = leaves-at (b ∷ path) rest
leaves-at [] (node character below rest) =
    ap (map rule_of) (filter-append (λ (x : Leaf). bytes_eq (path_of x) []) (map (under character) (leaves below)) (leaves rest)
    ∙ ap (λ (xs : List Leaf). xs ++ with_key path_of [] (leaves rest)) (none_here character (leaves below)))
    ∙ leaves-at [] rest
leaves-at (b ∷ path) (node character below rest) =
    ap (map rule_of) (filter-append (λ (x : Leaf). bytes_eq (path_of x) (b ∷ path)) (map (under character) (leaves below)) (leaves rest))
    ∙ map-append rule_of (with_key path_of (b ∷ path) (map (under character) (leaves below))) (with_key path_of (b ∷ path) (leaves rest))
    ∙ ap₂ (λ (xs ys : List GlobRule). xs ++ ys) (by_test (character == b) refl (leaves-at path below)) (leaves-at (b ∷ path) rest)
  where
    by_test : (t : Bool) → (character == b) ≡ t → map rule_of (with_key path_of path (leaves below)) ≡ leaves_at path below
        → map rule_of (with_key path_of (b ∷ path) (map (under character) (leaves below)))
        ≡ cond (character == b) (leaves_at path below) []
    by_test true is inner = rw is (with_same character b path (leaves below) is ∙ inner)
    by_test false is inner = rw is (ap (map rule_of) (with_other character b path (leaves below) is))
