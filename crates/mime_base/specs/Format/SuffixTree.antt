-- The reverse suffix tree of a cache: each ending from its last byte to its first is the path of its rules.
use Rattle.std.specs.Prelude.{◌≡◌, ℕ, ◌+◌, List, [], ◌∷◌, length, map, bytes_eq}
use Rattle.std.specs.List.{flat_map}
use Rattle.std.specs.Set.{distinct_count}
use Rattle.mime_base.specs.Format.Records.{CardsAt, Standing}
use Rattle.mime_base.specs.Format.Sorted.{with_key}
use Rattle.mime_base.specs.Format.Stored.{reversed_ending, tree_rules}
use Rattle.mime_base.specs.Format.Tree.{InOrder, Tree, TreeAt, leaves_at, node_count, sibling_count}
use Rattle.mime_base.specs.declared.database.rule.GlobRule.{GlobRule}

-- the non-empty fronts of a path: of a reversed text, these are its non-empty endings reversed
abbrev pub fronts : List ℕ → List (List ℕ)
fronts [] = []
fronts (b ∷ path) = (b ∷ []) ∷ map (λ front. b ∷ front) (fronts path)

-- how many distinct non-empty fronts the paths have
abbrev pub front_count : List (List ℕ) → ℕ
front_count paths = distinct_count bytes_eq (flat_map fronts paths)

-- how many nodes the tree has, leaves included: a leaf for each rule, a node for each distinct ending
abbrev pub tree_size : List GlobRule → ℕ
tree_size rules = length (tree_rules rules) + front_count (map reversed_ending (tree_rules rules))

-- the head: how many roots there are, and the offset of the first
pub record SuffixTreeAt (S : Standing) (at : ℕ) (rules : List GlobRule) : Type 0 where
  pub tree : Tree
  pub first : ℕ
  pub head : CardsAt S at (sibling_count tree ∷ first ∷ [])
  pub stand : TreeAt S first tree
  pub ordered : InOrder 0 tree
  pub leaves : (path : List ℕ) → leaves_at path tree ≡ with_key reversed_ending path (tree_rules rules)
  pub size : node_count tree ≡ tree_size rules
