-- The leaves of a tree of rules that stands end as their paths say, and what an ending of a leaf is like.
use Rattle.std.proofs.Common.{◌≡◌, ℕ, zero, suc, ◌+◌, ◌<◌, ◌≤◌, ◌==◌, Bool, true, false, cond, List, [], ◌∷◌, ◌++◌, length, drop, get_or, refl, ap, sym, subst, ◌∙◌, arith, append_assoc, bytes_eq, length-append}
use Rattle.std.specs.Prelude.{reverse}
use Rattle.std.specs.List.{All}
use Rattle.std.proofs.Math.Seq.{get_or-append-add}
use Rattle.std.proofs.lemmas.Bool.{eq-eqb}
use Rattle.std.proofs.lemmas.List.{append-nil, get_or_append_left, length-map, reverse-append, reverse-reverse}
use Rattle.std.proofs.lemmas.List.Elements.{All-filter, All-head, All-tail, filter_passes}
use Rattle.std.proofs.lemmas.Slice.Eq.{bytes_eq-Decides}
use Rattle.mime_base.specs.Database.Limits.{KeepsLimits}
use Rattle.mime_base.specs.Format.Sorted.{with_key}
use Rattle.mime_base.specs.Format.Stored.{is_in_tree, reversed_ending, stored_text, tree_rules}
use Rattle.mime_base.specs.Format.Tree.{Tree, bare, leaf, leaf_count, leaves_at, node}
use Rattle.mime_base.specs.Matching.Folding.{compared, compared_byte}
use Rattle.mime_base.specs.declared.database.rule.GlobRule.{GlobRule}
use Rattle.mime_base.proofs.KeptLemmas.PlainPatterns.{tree_pattern}
use Rattle.mime_load.specs.Parts.{IsTreeList}
use Rattle.mime_load.specs.Walks.{Ended, HasEnding}
use Rattle.mime_load.proofs.StoredPatterns.{compared-bytes}

-- What a leaf says of the ending that leads to it.
pub record FitsLeaf (ending : List ℕ) : Type 0 where
  pub short : length ending ≤ 254
  pub bytes : All (λ b. b < 256) ending

-- a leaf's rule
ends_fit : (ending : List ℕ) (rule : GlobRule) → HasEnding ending rule → FitsLeaf ending
ends_fit ending rule e =
    let limits : KeepsLimits rule = e.2 in
    let size : length (stored_text rule) ≡ length rule.pattern = length-map rule.pattern (compared_byte rule.cased) in
    let long : length (stored_text rule) ≡ length (42 ∷ ending) = ap (λ (xs : List ℕ). length xs) e.0 in
    let folded : All (λ b. b < 256) (stored_text rule) = compared-bytes rule.cased rule.pattern limits.2 in
    record {
      short = omega (arith, size, long, limits.1);
      bytes = All-tail (λ b. b < 256) 42 ending (subst (λ (xs : List ℕ). All (λ b. b < 256) xs) e.0 folded);
    }

-- below a node, or after it
node_fits : (character : ℕ) (ending : List ℕ) (n m : ℕ) → 0 < n + m → (0 < n → FitsLeaf (character ∷ ending)) → (0 < m → FitsLeaf ending)
    → FitsLeaf ending
node_fits character ending zero m some down side = side (omega (arith, some))
node_fits character ending (suc n) m some down side =
    let deeper = down (omega arith) in
    record { short = omega (arith, deeper.short); bytes = All-tail (λ b. b < 256) character ending deeper.bytes }

-- some leaf of a tree
pub leaf_fits : (ending : List ℕ) (tree : Tree) → Ended ending tree → 0 < leaf_count tree → FitsLeaf ending
leaf_fits ending bare ended some = absurd (omega (arith, some))
leaf_fits ending (leaf rule rest) ended some = ends_fit ending rule ended.0
leaf_fits ending (node character below rest) ended some =
    node_fits character ending (leaf_count below) (leaf_count rest) some (λ more. leaf_fits (character ∷ ending) below ended.0 more)
    (λ more. leaf_fits ending rest ended.1 more)

-- what holds of each of two lists
pub all_left : {X : Type 0} (P : X → Type 0) (xs ys : List X) → All P (xs ++ ys) → All P xs
all_left P xs ys all k d within =
    subst P (get_or_append_left xs ys d k within) (all k d (omega (arith, within, length-append xs ys)))

-- and of the second
pub all_right : {X : Type 0} (P : X → Type 0) (xs ys : List X) → All P (xs ++ ys) → All P ys
all_right P xs ys all k d within =
    subst P (get_or-append-add xs ys k d) (all (length xs + k) d (omega (arith, within, length-append xs ys)))

-- a path that is one character longer, before an ending
path_ending : (character : ℕ) (path ending : List ℕ) → reverse (character ∷ path) ++ ending ≡ reverse path ++ (character ∷ ending)
path_ending character path ending =
    ap (λ (xs : List ℕ). xs ++ ending) (reverse-append (character ∷ []) path) ∙ append_assoc (reverse path) (character ∷ []) ending

-- each leaf's rule ends as its path says, if those at each path do
ended_each : (ending : List ℕ) (tree : Tree) → ((path : List ℕ) → All (HasEnding (reverse path ++ ending)) (leaves_at path tree))
    → Ended ending tree
ended_each ending bare each = tt
ended_each ending (leaf rule rest) each = (
  All-head (HasEnding ending) rule (leaves_at [] rest) (each []),
  ended_each ending rest (after_leaf ending rule rest each),
)
  where
    after_leaf : (ending : List ℕ) (rule : GlobRule) (rest : Tree)
        → ((path : List ℕ) → All (HasEnding (reverse path ++ ending)) (leaves_at path (leaf rule rest)))
        → (path : List ℕ) → All (HasEnding (reverse path ++ ending)) (leaves_at path rest)
    after_leaf ending rule rest each [] = All-tail (HasEnding ending) rule (leaves_at [] rest) (each [])
    after_leaf ending rule rest each (b ∷ path) = each (b ∷ path)
ended_each ending (node character below rest) each = (
  ended_each (character ∷ ending) below (below_node ending character below rest each),
  ended_each ending rest (after_node ending character below rest each),
)
  where
    below_node : (ending : List ℕ) (character : ℕ) (below rest : Tree)
        → ((path : List ℕ) → All (HasEnding (reverse path ++ ending)) (leaves_at path (node character below rest)))
        → (path : List ℕ) → All (HasEnding (reverse path ++ (character ∷ ending))) (leaves_at path below)
    below_node ending character below rest each path =
        let same : (character == character) ≡ true = eq-eqb character character refl in
        let here : All (HasEnding (reverse (character ∷ path) ++ ending)) (leaves_at path below ++ leaves_at (character ∷ path) rest) =
        subst (λ (t : Bool). All (HasEnding (reverse (character ∷ path) ++ ending))
        (cond t (leaves_at path below) [] ++ leaves_at (character ∷ path) rest))
        same (each (character ∷ path)) in
        subst (λ (e : List ℕ). All (HasEnding e) (leaves_at path below)) (path_ending character path ending)
        (all_left (HasEnding (reverse (character ∷ path) ++ ending)) (leaves_at path below) (leaves_at (character ∷ path) rest) here)

    after_node : (ending : List ℕ) (character : ℕ) (below rest : Tree)
        → ((path : List ℕ) → All (HasEnding (reverse path ++ ending)) (leaves_at path (node character below rest)))
        → (path : List ℕ) → All (HasEnding (reverse path ++ ending)) (leaves_at path rest)
    after_node ending character below rest each [] = each []
    after_node ending character below rest each (b ∷ path) =
        all_right (HasEnding (reverse (b ∷ path) ++ ending)) (cond (character == b) (leaves_at path below) []) (leaves_at (b ∷ path) rest)
        (each (b ∷ path))

-- the stored text of a rule of the tree is a star and its ending
tree_text : (rule : GlobRule) → is_in_tree rule ≡ true → stored_text rule ≡ 42 ∷ reverse (reversed_ending rule)
tree_text rule is =
    let shape = tree_pattern rule is in
    whole (stored_text rule) (compared rule.cased shape.0)
    (ap (compared rule.cased) shape.1 ∙ ap (λ (b : ℕ). b ∷ compared rule.cased shape.0) (star rule.cased))
  where
    star : (cased : Bool) → compared_byte cased 42 ≡ 42
    star true = refl
    star false = refl

    whole : (text rest : List ℕ) → text ≡ 42 ∷ rest → text ≡ 42 ∷ reverse (reverse (drop 1 text))
    whole text rest is =
        is ∙ ap (λ (bytes : List ℕ). 42 ∷ bytes) (sym (reverse-reverse rest))
        ∙ sym (ap (λ (t : List ℕ). 42 ∷ reverse (reverse (drop 1 t))) is)

-- the rules at a path of those that have a tree
rules_end : (path : List ℕ) (rules : List GlobRule) → All KeepsLimits rules
    → All (HasEnding (reverse path ++ [])) (with_key reversed_ending path (tree_rules rules))
rules_end path rules limits k d within =
    let rule = get_or (with_key reversed_ending path (tree_rules rules)) k d in
    let keyed = λ (rule : GlobRule). bytes_eq (reversed_ending rule) path in
    let in_tree = All-filter keyed (λ rule. is_in_tree rule ≡ true) (tree_rules rules) (filter_passes is_in_tree rules) k d within in
    let fit = All-filter keyed KeepsLimits (tree_rules rules) (All-filter is_in_tree KeepsLimits rules limits) k d within in
    let key : reversed_ending rule ≡ path =
    (bytes_eq-Decides (reversed_ending rule) path).0 (filter_passes keyed (tree_rules rules) k d within) in (
      tree_text rule in_tree ∙ ap (λ (text : List ℕ). 42 ∷ reverse text) key ∙ ap (λ (text : List ℕ). 42 ∷ text)
          (sym (append-nil (reverse path))),
      in_tree,
      fit,
    )

-- a tree of rules ends as its paths say
pub tree_ended : (c : List ℕ) (at : ℕ) (rules : List GlobRule) (list : IsTreeList c at rules) → Ended [] list.stand.tree
tree_ended c at rules list =
    ended_each [] list.stand.tree (λ path. subst (λ (xs : List GlobRule). All (HasEnding (reverse path ++ [])) xs) (sym (list.stand.leaves path))
    (rules_end path rules list.limits))
