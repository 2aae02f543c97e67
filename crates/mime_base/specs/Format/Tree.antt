-- Trees of characters with rules as leaves, and how they stand in a cache.
use Rattle.std.specs.Prelude.{◌≡◌, ◌<◌, ℕ, ◌+◌, ◌==◌, if◌then◌else◌, List, [], ◌∷◌, ◌++◌}
use Rattle.mime_base.specs.Format.Records.{CardsAt, Standing, TextAt}
use Rattle.mime_base.specs.Format.Stored.{weight_and_flags}
use Rattle.mime_base.specs.declared.database.rule.GlobRule.{GlobRule}

-- no sibling; or a leaf and the siblings after it; or a node, what is below it, and the siblings after it
pub data Tree : Type 0 where
  bare : Tree
  leaf : GlobRule → Tree → Tree
  node : ℕ → Tree → Tree → Tree

-- how many siblings there are
abbrev pub sibling_count : Tree → ℕ
sibling_count bare = 0
sibling_count (leaf rule rest) = 1 + sibling_count rest
sibling_count (node character below rest) = 1 + sibling_count rest

-- how many nodes there are at all depths, leaves included
abbrev pub node_count : Tree → ℕ
node_count bare = 0
node_count (leaf rule rest) = 1 + node_count rest
node_count (node character below rest) = 1 + node_count below + node_count rest

-- how many of them are leaves
abbrev pub leaf_count : Tree → ℕ
leaf_count bare = 0
leaf_count (leaf rule rest) = 1 + leaf_count rest
leaf_count (node character below rest) = leaf_count below + leaf_count rest

-- the rules of the leaves, a node's before those of the siblings after it
abbrev pub rules_in : Tree → List GlobRule
rules_in bare = []
rules_in (leaf rule rest) = rule ∷ rules_in rest
rules_in (node character below rest) = rules_in below ++ rules_in rest

-- Siblings stand one after another, in three numbers each: a leaf is 0, the offset of its type, weight and flags;
-- a node is its character, how many siblings are below it, and the offset of the first.
abbrev pub TreeAt : Standing → ℕ → Tree → Type 0
TreeAt S at bare = Unit {0}
TreeAt S at (leaf rule rest) =
    (kind : ℕ) × CardsAt S at (0 ∷ kind ∷ weight_and_flags rule ∷ []) × TextAt S kind rule.kind
    × TreeAt S (at + 12) rest
TreeAt S at (node character below rest) =
    (first : ℕ) × CardsAt S at (character ∷ sibling_count below ∷ first ∷ []) × TreeAt S first below × TreeAt S (at + 12) rest

-- the rules of the leaves at the end of a path of characters, in their order
abbrev pub leaves_at : List ℕ → Tree → List GlobRule
leaves_at path bare = []
leaves_at [] (leaf rule rest) = rule ∷ leaves_at [] rest
leaves_at (b ∷ path) (leaf rule rest) = leaves_at (b ∷ path) rest
leaves_at [] (node character below rest) = leaves_at [] rest
leaves_at (b ∷ path) (node character below rest) =
    (if character == b then leaves_at path below else []) ++ leaves_at (b ∷ path) rest

-- Leaves come first, then nodes by strictly rising character, each leading to a leaf, and so on below.
-- `before` is the character of the node before these, 0 where there is none.
abbrev pub InOrder : ℕ → Tree → Type 0
InOrder before bare = Unit {0}
InOrder before (leaf rule rest) = (before ≡ 0) × InOrder before rest
InOrder before (node character below rest) =
    (before < character) × (0 < leaf_count below) × InOrder 0 below × InOrder character rest
