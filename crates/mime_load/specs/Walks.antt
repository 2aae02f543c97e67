-- What is read back of a suffix tree.
use Rattle.std.specs.Prelude.{◌≡◌, ℕ, ◌+◌, ◌*◌, ◌<◌, ◌≤◌, ◌&&◌, ◌==◌, Bool, not, length, true, List, ◌∷◌, ◌++◌, reverse}
use Rattle.mime_base.specs.Cache.Bytes.{Stands}
use Rattle.mime_base.specs.Database.Limits.{KeepsLimits}
use Rattle.mime_base.specs.Format.Records.{TextAt}
use Rattle.mime_base.specs.Format.Stored.{is_in_tree, is_suffix_class, stored_text, weight_and_flags}
use Rattle.mime_base.specs.Kept.Classes.{class_of}
use Rattle.mime_base.specs.Format.Tree.{InOrder, Tree, TreeAt, bare, leaf, node, node_count, rules_in, sibling_count}
use Rattle.mime_base.specs.declared.database.rule.GlobRule.{GlobRule}

-- a pattern of the tree: a star with a plain ending after it
abbrev pub is_suffix : List ℕ → Bool
is_suffix pattern = is_suffix_class (class_of pattern) && not (length pattern == 1)

-- a rule of the tree that keeps its limits, and whose stored text is a star and this ending
abbrev pub HasEnding : List ℕ → GlobRule → Type 0
HasEnding ending rule = (stored_text rule ≡ 42 ∷ ending) × (is_in_tree rule ≡ true) × KeepsLimits rule

-- each leaf's rule ends as its path says, below an ending
abbrev pub Ended : List ℕ → Tree → Type 0
Ended ending bare = Unit {0}
Ended ending (leaf rule rest) = HasEnding ending rule × Ended ending rest
Ended ending (node character below rest) = Ended (character ∷ ending) below × Ended ending rest

-- the rule of a leaf with these second and third numbers, below an ending
pub record IsLeafRule (c : List ℕ) (kind flags : ℕ) (ending : List ℕ) (rule : GlobRule) : Type 0 where
  pub flags_are : flags ≡ weight_and_flags rule
  pub kind_stands : TextAt (Stands c) kind rule.kind
  pub ends : HasEnding ending rule

-- That many siblings stand from `at` on, below an ending. A sibling before them has a character below `next`.
pub record Walked (c : List ℕ) (at count : ℕ) (ending : List ℕ) (next : ℕ) (before after : List GlobRule) (old new : ℕ) : Type 0 where
  -- They are these, with what is below them.
  pub tree : Tree
  -- They stand.
  pub stand : TreeAt (Stands c) at tree
  -- They are in order after any lower character.
  pub ordered : (character : ℕ) → character < next → InOrder character tree
  -- Each leaf's rule ends as its path says.
  pub ended : Ended ending tree
  -- There are so many.
  pub siblings : sibling_count tree ≡ count
  -- Their rules were added, from the last to the first.
  pub rules : after ≡ before ++ reverse (rules_in tree)
  -- Their nodes took twelve bytes each.
  pub nodes : new + 12 * node_count tree ≡ old

-- the character of the first of siblings, 0 for a leaf
abbrev pub first_character : Tree → ℕ
first_character bare = 0
first_character (leaf rule rest) = 0
first_character (node character below rest) = character

-- how many nodes the first of siblings is, with what is below it
abbrev pub first_nodes : Tree → ℕ
first_nodes bare = 0
first_nodes (leaf rule rest) = 1
first_nodes (node character below rest) = 1 + node_count below

-- Siblings stand from `at` on, in order, and each leaf's rule ends as its path says, below an ending.
pub record TreeStands (c : List ℕ) (at : ℕ) (ending : List ℕ) (tree : Tree) : Type 0 where
  -- They stand.
  pub stand : TreeAt (Stands c) at tree
  -- The character of the node before them, 0 where there is none.
  pub before : ℕ
  -- They are in order after it.
  pub ordered : InOrder before tree
  -- Each leaf's rule ends as its path says.
  pub ended : Ended ending tree

-- A sibling before that many that stand from `at` on has a character below `next`.
pub record IsNext (c : List ℕ) (at count next : ℕ) : Type 0 where
  pub lower : (before : ℕ) (tree : Tree) → before < 256 → TreeAt (Stands c) at tree → sibling_count tree ≡ count → InOrder before tree
      → before < next

-- The sibling at `at` was read, after those whose characters are below `next`; a sibling before it has one below `before`.
pub record ReadsSibling (c : List ℕ) (at : ℕ) (ending : List ℕ) (next before : ℕ) (rules more : List GlobRule) (old new : ℕ) : Type 0 where
  -- It stands before those, and its rules are added to theirs.
  pub walked : (count start : ℕ) (first : List GlobRule) → Walked c (at + 12) count ending next first rules start old
      → Walked c at (count + 1) ending before first more start new
  -- A sibling before it has a lower character.
  pub is_next : (count : ℕ) → IsNext c at (count + 1) before
  -- The character before it fits.
  pub fits : (1 ≤ before) × (before ≤ 256)
