-- The rules of a tree's leaves are those that the leaves' paths say.
use Rattle.std.proofs.Common.{◌≡◌, ℕ, Bool, true, false, cond, List, [], ◌∷◌, ◌++◌, map, drop, ap, refl, sym, ◌∙◌, append_assoc, bytes_eq}
use Rattle.std.specs.Prelude.{reverse}
use Rattle.std.specs.List.{All}
use Rattle.std.proofs.lemmas.List.{append-nil, map-append, reverse-append}
use Rattle.std.proofs.lemmas.List.Elements.{All-append, All-cons, All-head, All-map, All-nil, All-tail, All-weaker}
use Rattle.std.proofs.lemmas.Simd.{map-map}
use Rattle.mime_base.specs.Format.Sorted.{with_key}
use Rattle.mime_base.specs.Format.Stored.{is_in_tree, reversed_ending}
use Rattle.mime_base.specs.Format.Tree.{Tree, bare, leaf, node, rules_in}
use Rattle.mime_base.specs.declared.database.rule.GlobRule.{GlobRule}
use Rattle.mime_base.specs.Database.Limits.{KeepsLimits}
use Rattle.mime_base.proofs.FormatLemmas.TreeLeaves.{Leaf, leaves, path_of, rule_of, under}
use Rattle.mime_load.specs.Walks.{Ended}
use Rattle.mime_load.proofs.TreePaths.{paths}

-- the path of a leaf's rule, below an ending
abbrev pub HasPath : List ℕ → Leaf → Type 0
HasPath ending x = reversed_ending (rule_of x) ≡ reverse ending ++ path_of x

-- one more character of the ending is one less of the path
path_step : (character : ℕ) (ending : List ℕ) (x : Leaf) → HasPath (character ∷ ending) x → HasPath ending (under character x)
path_step character ending x is =
    is ∙ ap (λ (e : List ℕ). e ++ path_of x) (reverse-append (character ∷ []) ending)
    ∙ append_assoc (reverse ending) (character ∷ []) (path_of x)

-- each leaf's rule has the path that its ending says
pub ended_paths : (ending : List ℕ) (tree : Tree) → Ended ending tree → All (HasPath ending) (leaves tree)
ended_paths ending bare ended = All-nil (HasPath ending)
ended_paths ending (leaf rule rest) ended =
    All-cons (HasPath ending) ([], rule) (leaves rest)
    (ap (λ (text : List ℕ). reverse (drop 1 text)) ended.0.0 ∙ sym (append-nil (reverse ending))) (ended_paths ending rest ended.1)
ended_paths ending (node character below rest) ended =
    All-append (HasPath ending) (map (under character) (leaves below)) (leaves rest)
    (All-map (HasPath ending) (under character) (leaves below)
    (All-weaker (HasPath (character ∷ ending)) (λ x. HasPath ending (under character x)) (path_step character ending) (leaves below)
    (ended_paths (character ∷ ending) below ended.0)))
    (ended_paths ending rest ended.1)

-- each rule belongs to a tree
pub ended_rules : (ending : List ℕ) (tree : Tree) → Ended ending tree → All (λ rule. is_in_tree rule ≡ true) (rules_in tree)
ended_rules ending bare ended = All-nil (λ rule. is_in_tree rule ≡ true)
ended_rules ending (leaf rule rest) ended =
    All-cons (λ rule. is_in_tree rule ≡ true) rule (rules_in rest) ended.0.1 (ended_rules ending rest ended.1)
ended_rules ending (node character below rest) ended =
    All-append (λ rule. is_in_tree rule ≡ true) (rules_in below) (rules_in rest) (ended_rules (character ∷ ending) below ended.0)
    (ended_rules ending rest ended.1)

-- each keeps its limits
pub ended_limits : (ending : List ℕ) (tree : Tree) → Ended ending tree → All KeepsLimits (rules_in tree)
ended_limits ending bare ended = All-nil KeepsLimits
ended_limits ending (leaf rule rest) ended =
    All-cons KeepsLimits rule (rules_in rest) ended.0.2 (ended_limits ending rest ended.1)
ended_limits ending (node character below rest) ended =
    All-append KeepsLimits (rules_in below) (rules_in rest) (ended_limits (character ∷ ending) below ended.0) (ended_limits ending rest ended.1)

-- the rules of an ending are those of the path
pub keys_of : (text : List ℕ) (xs : List Leaf) → All (HasPath []) xs
    → with_key reversed_ending text (map rule_of xs) ≡ map rule_of (with_key path_of text xs)
keys_of text [] keyed = refl
keys_of text (x ∷ xs) keyed =
    let rest = keys_of text xs (All-tail (HasPath []) x xs keyed) in
    let here : bytes_eq (reversed_ending (rule_of x)) text ≡ bytes_eq (path_of x) text =
    ap (λ (key : List ℕ). bytes_eq key text) (All-head (HasPath []) x xs keyed) in
    ap (λ (t : Bool). cond t (rule_of x ∷ with_key reversed_ending text (map rule_of xs))
    (with_key reversed_ending text (map rule_of xs))) here
    ∙ elim (bytes_eq (path_of x) text) as (λ t. cond t (rule_of x ∷ with_key reversed_ending text (map rule_of xs))
    (with_key reversed_ending text (map rule_of xs)) ≡ map rule_of (cond t (x ∷ with_key path_of text xs) (with_key path_of text xs))) [
      | true ↦ ap (λ (rules : List GlobRule). rule_of x ∷ rules) rest
      | false ↦ rest
    ]

-- the endings of the rules are the paths
pub endings_of : (xs : List Leaf) → All (HasPath []) xs → map reversed_ending (map rule_of xs) ≡ map path_of xs
endings_of [] keyed = refl
endings_of (x ∷ xs) keyed =
    rw (endings_of xs (All-tail (HasPath []) x xs keyed))
    (ap (λ (p : List ℕ). p ∷ map path_of xs) (All-head (HasPath []) x xs keyed))

-- the paths of the leaves
pub paths_of : (tree : Tree) → map path_of (leaves tree) ≡ paths tree
paths_of bare = refl
paths_of (leaf rule rest) = ap (λ (ps : List (List ℕ)). [] ∷ ps) (paths_of rest)
paths_of (node character below rest) =
    map-append path_of (map (under character) (leaves below)) (leaves rest)
    ∙ ap (λ (ps : List (List ℕ)). ps ++ map path_of (leaves rest))
    (map-map path_of (under character) (leaves below)
    ∙ sym (map-map (λ (p : List ℕ). character ∷ p) path_of (leaves below))
    ∙ ap (map (λ (p : List ℕ). character ∷ p)) (paths_of below))
    ∙ ap (λ (ps : List (List ℕ)). map (λ (p : List ℕ). character ∷ p) (paths below) ++ ps) (paths_of rest)
