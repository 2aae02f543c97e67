-- Endings of rules as paths, the tree's siblings one by one, and how many nodes sorted endings take.
use Rattle.std.specs.Prelude.{◌≡◌, ◌<◌, ◌≤◌, ◌⊎◌, ℕ, ◌+◌, ◌*◌, ◌-◌, ◌==◌, if◌then◌else◌, List, [], ◌∷◌, ◌++◌, length, drop, map}
use Rattle.std.specs.Prelude.{sum_by, bytes_eq, Option, None, Some}
use Rattle.std.specs.Borrow.{Bor}
use Rattle.mime_base.specs.Format.Records.{CardsAt, Standing, TextAt}
use Rattle.mime_base.specs.Format.Room.{text_room}
use Rattle.mime_base.specs.Format.Sorted.{with_key}
use Rattle.mime_base.specs.Format.Stored.{reversed_ending, weight_and_flags}
use Rattle.mime_base.specs.Format.SuffixTree.{front_count}
use Rattle.mime_base.specs.Format.Tree.{InOrder, Tree, TreeAt, bare, leaf, leaf_count, leaves_at, node, node_count, sibling_count}
use Rattle.mime_base.specs.declared.database.rule.GlobRule.{GlobRule}
use Rattle.mime_store.specs.Texts.{NoZero}
use Rattle.mime_store.specs.Written.{Grew, Written}
use Rattle.mime_store.specs.declared.ending.Ending.{Ending}

-- the rule of an ending
abbrev pub ending_rule : Ending → GlobRule
ending_rule ending = ending.rule.now

-- the path of an ending
unfoldable pub ending_path : Ending → List ℕ
ending_path ending = reversed_ending ending.rule.now

-- the path of the ending before, or an empty one where there is none
abbrev pub path_before : Option (Bor Ending) → List ℕ
path_before None = []
path_before (Some ending) = ending_path ending.now

-- a path, and the rule at its end
abbrev pub PathRule : Type 0
PathRule = List ℕ × GlobRule

-- what is left of an ending at a depth
abbrev pub ending_entry : ℕ → Ending → PathRule
ending_entry depth ending = (drop depth (ending_path ending), ending.rule.now)

-- the rules of the entries with this path, in their order
abbrev pub pick : List ℕ → List PathRule → List GlobRule
pick path [] = []
pick path (e ∷ es) = (if bytes_eq e.0 path then e.1 ∷ [] else []) ++ pick path es

-- how far two paths agree
abbrev pub common : List ℕ → List ℕ → ℕ
common [] ys = 0
common (x ∷ xs) [] = 0
common (x ∷ xs) (y ∷ ys) = if x == y then common xs ys + 1 else 0

-- a leaf for each entry, and a node for each byte past what its path shares with the path before it
abbrev pub nodes : List ℕ → List PathRule → ℕ
nodes before [] = 0
nodes before (e ∷ es) = (length e.0 - common before e.0) + 1 + nodes e.0 es

-- what the types of the entries take
abbrev pub kinds_room : List PathRule → ℕ
kinds_room es = sum_by (λ e. text_room e.1.kind) es

-- what the entries take as a tree
abbrev pub entries_room : List PathRule → ℕ
entries_room es = 12 * nodes [] es + kinds_room es

-- what an entry takes as a leaf, with its type and the nodes past what its path shares with the path before it
abbrev pub ending_room : List ℕ → PathRule → ℕ
ending_room before e = 12 * (length e.0 - common before e.0 + 1) + text_room e.1.kind

-- one of some siblings
pub data Sibling : Type 0 where
  a_leaf : GlobRule → Sibling
  a_node : ℕ → Tree → Sibling

-- siblings one after another
abbrev pub as_tree : List Sibling → Tree
as_tree [] = bare
as_tree (a_leaf rule ∷ siblings) = leaf rule (as_tree siblings)
as_tree (a_node byte below ∷ siblings) = node byte below (as_tree siblings)

-- the numbers of a sibling's record
abbrev pub IsSiblingRecord : Standing → Sibling → List ℕ → Type 0
IsSiblingRecord S (a_leaf rule) row = (kind : ℕ) × (row ≡ 0 ∷ kind ∷ weight_and_flags rule ∷ []) × TextAt S kind rule.kind
IsSiblingRecord S (a_node byte below) row = (first : ℕ) × (row ≡ byte ∷ sibling_count below ∷ first ∷ []) × TreeAt S first below

-- how many nodes there are at it and below it, leaves included
abbrev pub sibling_nodes : Sibling → ℕ
sibling_nodes (a_leaf rule) = 1
sibling_nodes (a_node byte below) = 1 + node_count below

-- how many leaves there are at it and below it
abbrev pub sibling_leaves : Sibling → ℕ
sibling_leaves (a_leaf rule) = 1
sibling_leaves (a_node byte below) = leaf_count below

-- the rules of the leaves at a path that begins with it
abbrev pub leaves_of : List ℕ → Sibling → List GlobRule
leaves_of [] (a_leaf rule) = rule ∷ []
leaves_of (b ∷ path) (a_leaf rule) = []
leaves_of [] (a_node byte below) = []
leaves_of (b ∷ path) (a_node byte below) = if byte == b then leaves_at path below else []

-- the character of the last node
abbrev pub next_byte : ℕ → Sibling → ℕ
next_byte before (a_leaf rule) = before
next_byte before (a_node byte below) = byte

-- the path is not before the other
abbrev pub PathLe : List ℕ → List ℕ → Type 0
PathLe [] ys = Unit {0}
PathLe (x ∷ xs) [] = ⊥
PathLe (x ∷ xs) (y ∷ ys) = (x < y) ⊎ ((x ≡ y) × PathLe xs ys)

-- the paths rise, from one before them
abbrev pub Rises : List ℕ → List PathRule → Type 0
Rises before [] = Unit {0}
Rises before (e ∷ es) = PathLe before e.0 × NoZero e.0 × Rises e.0 es

-- the first path does not go on from the one before it
abbrev pub Fresh : List ℕ → List PathRule → Type 0
Fresh before [] = Unit {0}
Fresh before (e ∷ es) = common before e.0 ≡ 0

-- the first byte of a path, or 0
abbrev pub first_byte : List ℕ → ℕ
first_byte [] = 0
first_byte (x ∷ xs) = x

-- Siblings stand there whose leaves are those of the entries.
pub record IsBlock (S : Standing) (count first : ℕ) (es : List PathRule) : Type 0 where
  -- The siblings, with what is below them.
  pub tree : Tree
  -- There are that many.
  pub counted : sibling_count tree ≡ count
  -- They stand there.
  pub stand : TreeAt S first tree
  -- At each path they have the rules that the entries have for it, in their order.
  pub leaves : (path : List ℕ) → leaves_at path tree ≡ pick path es
  -- There are as many nodes as the entries need.
  pub size : node_count tree ≡ nodes [] es
  -- And a leaf for each entry.
  pub counts : leaf_count tree ≡ length es
  -- Where the paths rise, so do the siblings.
  pub ordered : Rises [] es → InOrder 0 tree

-- After a path that the entries do not go on from, the sibling is in order, and some such path stands before the rest.
pub record GoesBehind (before : List ℕ) (sibling : Sibling) (rest : List PathRule) : Type 0 where
  -- The path that stands before the rest.
  pub after : List ℕ
  -- The sibling is in order after the path before it.
  pub here : InOrder (first_byte before) (as_tree (sibling ∷ []))
  -- The next sibling's byte is above that of the path before the rest.
  pub now : next_byte (first_byte before) sibling ≡ first_byte after
  -- The rest rises from that path.
  pub rises : Rises after rest
  -- And does not go on from it.
  pub fresh : Fresh after rest

-- The first n entries make one sibling, and what belongs to it was written.
pub record WritesSibling (old new row : List ℕ) (n : ℕ) (es : List PathRule) : Type 0 where
  -- The sibling, with what is below it.
  pub sibling : Sibling
  -- How many bytes were written.
  pub by : ℕ
  -- They are after the others.
  pub grew : Grew old new by
  -- The row is the sibling's record, over what was written.
  pub is : IsSiblingRecord (Written new) sibling row
  -- It takes the nodes that the entries need more than those after the first n.
  pub size : sibling_nodes sibling + nodes [] (drop n es) ≡ nodes [] es
  -- So it does of the bytes, with the 12 of its record.
  pub room : by + 12 + entries_room (drop n es) ≡ entries_room es
  -- At each path its leaves are the first of the rules that the entries have for it.
  pub leaves : (path : List ℕ) → leaves_of path sibling ++ pick path (drop n es) ≡ pick path es
  -- It has as many leaves as entries that it is made of.
  pub counts : sibling_leaves sibling + length (drop n es) ≡ length es
  -- Where the entries rise from a path and do not go on from it, it is in order, and so are those after it.
  pub goes : (before : List ℕ) → Rises before es → Fresh before es → GoesBehind before sibling (drop n es)
  -- It is made of an entry at least.
  pub some : 0 < n
  -- And of no more than there are.
  pub within : n ≤ length es

-- all of them begin with b
abbrev pub StartAll : ℕ → List PathRule → Type 0
StartAll b [] = Unit {0}
StartAll b (e ∷ es) = (k : List ℕ) × (e.0 ≡ b ∷ k) × StartAll b es

-- the first one does not begin with b
abbrev pub ClearOf : ℕ → List PathRule → Type 0
ClearOf b [] = Unit {0}
ClearOf b (e ∷ es) = (k : List ℕ) → common (b ∷ k) e.0 ≡ 0

-- the entries are those of the rules, by rising paths: with the rules of each path in their order
pub record AreEndings (es : List PathRule) (rules : List GlobRule) : Type 0 where
  pub rises : Rises [] es
  pub leaves : (path : List ℕ) → pick path es ≡ with_key reversed_ending path rules
  pub size : nodes [] es ≡ length rules + front_count (map reversed_ending rules)
  pub kinds : kinds_room es ≡ sum_by (λ rule. text_room rule.kind) rules

-- the head of a tree stands there, whose leaves are those of the entries
pub record TreeOf (S : Standing) (at : ℕ) (es : List PathRule) : Type 0 where
  pub tree : Tree
  pub first : ℕ
  pub head : CardsAt S at (sibling_count tree ∷ first ∷ [])
  pub stand : TreeAt S first tree
  pub ordered : InOrder 0 tree
  pub leaves : (path : List ℕ) → leaves_at path tree ≡ pick path es
  pub size : node_count tree ≡ nodes [] es
