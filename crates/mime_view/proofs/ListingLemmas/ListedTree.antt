-- The rules of a suffix tree: their endings are their paths, and they are listed in the order of these.
use Rattle.std.proofs.Common.{◌≡◌, ℕ, Bool, true, false, cond, List, [], ◌∷◌, map}
use Rattle.std.proofs.Common.{refl, sym, ap, subst, ◌∙◌, bytes_eq}
use Rattle.std.specs.List.{All}
use Rattle.std.specs.List.Sorted.{IsSortedBy}
use Rattle.std.proofs.lemmas.List.Elements.{All-cons, All-head, All-nil, All-tail, All-weaker}
use Rattle.mime_base.specs.Database.Limits.{KeepsLimits}
use Rattle.mime_base.specs.Format.Sorted.{IsSortedByText, with_key}
use Rattle.mime_base.specs.Format.Stored.{reversed_ending, tree_rules}
use Rattle.mime_base.specs.Format.Tree.{InOrder, Tree, leaves_at, rules_in}
use Rattle.mime_base.specs.declared.database.rule.GlobRule.{GlobRule}
use Rattle.mime_base.proofs.FormatLemmas.TreeLeaves.{Leaf, leaves, leaves-at, path_of, rule_of, rules-leaves}
use Rattle.mime_view.proofs.HitsLemmas.SameKeys.{bytes_eq-same, first_of, others, permuted}
use Rattle.mime_view.proofs.SuffixTreeLemmas.TreeOrder.{Keyed, ends_before, leaves_sorted}
use Rattle.mime_view.proofs.SuffixTreeLemmas.EndedRules.{IsEnded, of_path}

-- what holds of the members of each path holds of each member
every : (P : List ℕ → GlobRule → Type 0) (xs : List Leaf)
    → ((path : List ℕ) → All (P path) (map rule_of (with_key path_of path xs))) → All (λ x. P (path_of x) (rule_of x)) xs
every P [] given = All-nil (λ x. P (path_of x) (rule_of x))
every P (x ∷ xs) given =
    let here = subst (All (P (path_of x))) (ap (map rule_of) (first_of path_of (path_of x) x xs (bytes_eq-same (path_of x))))
    (given (path_of x)) in
    All-cons (λ y. P (path_of y) (rule_of y)) x xs
    (All-head (P (path_of x)) (rule_of x) (map rule_of (with_key path_of (path_of x) xs)) here)
    (every P xs (λ path. by_test path (bytes_eq (path_of x) path) refl))
  where
    by_test : (path : List ℕ) (t : Bool) → bytes_eq (path_of x) path ≡ t → All (P path) (map rule_of (with_key path_of path xs))
    by_test path true is =
        All-tail (P path) (rule_of x) (map rule_of (with_key path_of path xs))
        (subst (All (P path)) (ap (map rule_of) (first_of path_of path x xs is)) (given path))
    by_test path false is = subst (All (P path)) (ap (map rule_of) (others path_of path x xs is)) (given path)

-- each leaf's rule ends at its path
pub ended_leaves : (rules : List GlobRule) (tree : Tree)
    → ((path : List ℕ) → leaves_at path tree ≡ with_key reversed_ending path (tree_rules rules)) → All KeepsLimits rules
    → All (λ x. IsEnded (path_of x) (rule_of x)) (leaves tree)
ended_leaves rules tree same fit =
    every IsEnded (leaves tree)
    (λ path. subst (All (IsEnded path)) (sym (leaves-at path tree ∙ same path)) (of_path rules path fit))

-- the rules of an ending are those of the path
keys_of : (text : List ℕ) (xs : List Leaf) → All Keyed xs
    → with_key reversed_ending text (map rule_of xs) ≡ map rule_of (with_key path_of text xs)
keys_of text [] keyed = refl
keys_of text (x ∷ xs) keyed =
    let rest = keys_of text xs (All-tail Keyed x xs keyed) in
    let here : bytes_eq (reversed_ending (rule_of x)) text ≡ bytes_eq (path_of x) text =
    ap (λ (key : List ℕ). bytes_eq key text) (All-head Keyed x xs keyed) in
    ap (λ (t : Bool). cond t (rule_of x ∷ with_key reversed_ending text (map rule_of xs))
    (with_key reversed_ending text (map rule_of xs))) here
    ∙ elim (bytes_eq (path_of x) text) as (λ t. cond t (rule_of x ∷ with_key reversed_ending text (map rule_of xs))
    (with_key reversed_ending text (map rule_of xs)) ≡ map rule_of (cond t (x ∷ with_key path_of text xs) (with_key path_of text xs))) [
      | true ↦ ap (λ (rules : List GlobRule). rule_of x ∷ rules) rest
      | false ↦ rest
    ]

-- the rules of the tree are listed by their endings
pub listed_by_ending : (rules : List GlobRule) (tree : Tree) → InOrder 0 tree
    → ((path : List ℕ) → leaves_at path tree ≡ with_key reversed_ending path (tree_rules rules)) → All KeepsLimits rules
    → IsSortedByText reversed_ending (tree_rules rules) (rules_in tree)
listed_by_ending rules tree order same fit =
    let keyed : All Keyed (leaves tree) =
    All-weaker (λ x. IsEnded (path_of x) (rule_of x)) Keyed (λ x end. end.key) (leaves tree) (ended_leaves rules tree same fit) in
    let ties : (text : List ℕ) → with_key reversed_ending text (rules_in tree) ≡ with_key reversed_ending text (tree_rules rules) =
    λ text. ap (with_key reversed_ending text) (sym (rules-leaves tree)) ∙ keys_of text (leaves tree) keyed
    ∙ leaves-at text tree ∙ same text in
    record {
      permuted = permuted reversed_ending (tree_rules rules) (rules_in tree) (λ text. sym (ties text));
      in_order = subst (IsSortedBy ends_before) (rules-leaves tree) (leaves_sorted tree order keyed);
      ties = ties;
    }
