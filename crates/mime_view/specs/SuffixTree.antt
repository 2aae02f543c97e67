-- The reverse suffix tree as it is read along a name, and why a walk gives no answer.
use Rattle.std.specs.Prelude.{◌≡◌, ◌≢◌, ◌⊎◌, ℕ, zero, suc, ◌+◌, ◌-◌, ◌*◌, ◌<◌, ◌≤◌, ◌==◌, if◌then◌else◌}
use Rattle.std.specs.Prelude.{List, [], get_or, length, reverse, filter, All, Result, Ok, Option, None, Some, IfNone, IfSome}
use Rattle.mime_base.specs.Cache.Bytes.{field}
use Rattle.mime_base.specs.Cache.Texts.{text_at}
use Rattle.mime_base.specs.Format.Stored.{weight_and_flags}
use Rattle.mime_base.specs.Format.Tree.{InOrder, Tree, bare, leaf, leaves_at, node, sibling_count}
use Rattle.mime_base.specs.Kept.Classes.{class_of}
use Rattle.mime_base.specs.declared.database.rule.GlobRule.{GlobRule}
use Rattle.mime_base.specs.declared.kept.class.Class.TheVariants.{Suffix}
use Rattle.mime_view.specs.Hits.{takes_rule, visits}
use Rattle.mime_view.specs.Lists.{IsHeadFault, LiesHead}
use Rattle.mime_view.specs.Magic.{IsBlockFault, LiesBlock}
use Rattle.mime_view.specs.Steps.{FindsRules, Part}
use Rattle.mime_view.specs.declared.fault.CacheFault.{CacheFault}
use Rattle.mime_view.specs.declared.hits.Case.{Case}
use Rattle.mime_view.specs.declared.query.Progress.{Progress}
use Rattle.mime_view.specs.declared.query.Query.{Query}
use Rattle.mime_view.specs.declared.suffixes.Siblings.{Siblings}

-- The record at `at` is that of a leaf of this rule.
pub record ReadsLeaf (c : List ℕ) (at : ℕ) (rule : GlobRule) : Type 0 where
  -- A leaf has no character.
  pub no_character : field c at 0 ≡ 0
  -- It names the rule's type.
  pub kind : text_at c (field c at 1) ≡ Ok rule.kind
  -- It has the rule's weight and flag.
  pub flags : field c at 2 ≡ weight_and_flags rule

-- siblings are read one after another, and what is below each
abbrev pub ReadsTree : List ℕ → ℕ → Tree → Type 0
ReadsTree c at bare = Unit {0}
ReadsTree c at (leaf rule rest) = ReadsLeaf c at rule × ReadsTree c (at + 12) rest
ReadsTree c at (node character below rest) =
    (field c at 0 ≡ character) × (field c at 1 ≡ sibling_count below) × LiesBlock c (field c at 2) 12 (sibling_count below)
    × ReadsTree c (field c at 2) below × ReadsTree c (at + 12) rest

-- A block is of these siblings, in the order of the format.
pub record ReadsBlock (c : List ℕ) (block : Siblings) (tree : Tree) : Type 0 where
  -- It is that many.
  pub size : sibling_count tree ≡ block.count
  -- They stand one after another.
  pub siblings : ReadsTree c block.first tree
  -- The leaves stand first, and then the characters rise.
  pub ordered : InOrder 0 tree

-- The place of the first sibling of a block whose character is not less.
pub record IsCharacterPlace (c : List ℕ) (block : Siblings) (character place : ℕ) : Type 0 where
  -- It is a place of the block, or the one after the last.
  pub within : place ≤ block.count
  -- The character of the sibling before it is less.
  pub before : (i : ℕ) → i + 1 ≡ place → field c (block.first + 12 * i) 0 < character
  -- That at it is not less.
  pub after : place < block.count → character ≤ field c (block.first + 12 * place) 0

-- what is below the sibling of a character; `bare` where there is none
abbrev pub below_character : ℕ → Tree → Tree
below_character b bare = bare
below_character b (leaf rule rest) = below_character b rest
below_character b (node character below rest) = if character == b then below else below_character b rest

-- the block below a character, or none where there is none
abbrev pub IsBelow : List ℕ → Tree → Option Siblings → Type 0
IsBelow c tree None = tree ≡ bare
IsBelow c tree (Some block) = ReadsBlock c block tree

-- The record at r is one of a block.
pub record IsSibling (c : List ℕ) (block : Siblings) (r : ℕ) : Type 0 where
  -- The block lies in the cache.
  pub lies : LiesBlock c block.first 12 block.count
  -- Which record it is.
  pub i : ℕ
  -- It is one of them.
  pub within : i < block.count
  -- It stands there.
  pub is : r ≡ block.first + 12 * i

-- The record at `at` is the node of a character.
pub record IsNodeOf (c : List ℕ) (at character : ℕ) : Type 0 where
  -- The character is not zero.
  pub some : 0 < character
  -- The record has it.
  pub is : field c at 0 ≡ character

-- A block is what the node of a character names, one of these records.
pub record IsNamedBlock (c : List ℕ) (Among : ℕ → Type 0) (character : ℕ) (block : Siblings) : Type 0 where
  -- The node.
  pub node : ℕ
  -- It is one of the records.
  pub among : Among node
  -- It is that of the character.
  pub of : IsNodeOf c node character
  -- It says where the first sibling is.
  pub first : block.first ≡ field c node 2
  -- And how many there are.
  pub count : block.count ≡ field c node 1

-- The halving among the siblings of a block finds none that has the character.
pub record IsAbsent (c : List ℕ) (block : Siblings) (character : ℕ) : Type 0 where
  -- Where it ends.
  pub place : ℕ
  -- The character of the sibling before is less, and that at it is not.
  pub found : IsCharacterPlace c block character place
  -- Nor is it the character.
  pub other : 0 < character → place < block.count → field c (block.first + 12 * place) 0 ≢ character

-- The block below a character of another, if there is one.
pub record IsBlockBelow (c : List ℕ) (block : Siblings) (character : ℕ) (below : Option Siblings) : Type 0 where
  -- It lies in the cache.
  pub lies : IfSome below (λ lower. LiesBlock c lower.first 12 lower.count)
  -- It is what one of the siblings names.
  pub named : IfSome below (IsNamedBlock c (IsSibling c block) character)
  -- There is none only where no sibling is found that has the character, wherever its children are.
  pub none : IfNone below (IsAbsent c block character)
  -- It is of the siblings below the character, wherever those of the block stand.
  pub reads : (tree : Tree) → ReadsBlock c block tree → IsBelow c (below_character character tree) below

-- how many siblings a scan of the leaves visits: the leaves, and the node after them
abbrev pub scan_visits : Tree → ℕ
scan_visits bare = 0
scan_visits (leaf rule rest) = 1 + scan_visits rest
scan_visits (node character below rest) = 1

-- those of some rules that a search takes
abbrev pub admitted : Case → List GlobRule → List GlobRule
admitted case rules = filter (λ rule. takes_rule case rule.cased) rules

-- A rule of an ending, whose pattern is `long` bytes long.
pub record IsSuffixRule (long : ℕ) (rule : GlobRule) : Type 0 where
  -- It is of the class Suffix.
  pub suffix : class_of rule.pattern ≡ Suffix
  -- Its pattern has that many bytes.
  pub pattern_length : length rule.pattern ≡ long
  -- Its weight has 8 bits.
  pub light : rule.weight < 256

-- of siblings a scan offers the leaves that the case takes, as rules with patterns of `long` bytes
abbrev pub FindsLeaves : {X : Type 0} → Query → ℕ → Tree → Progress → Progress → Result X CacheFault → Type 0
FindsLeaves query long tree old new result =
    FindsRules query.counted.now (All (IsSuffixRule long) (leaves_at [] tree)) (admitted query.case (leaves_at [] tree))
    (visits query.case * scan_visits tree) old new result

-- the leaf at `at`, if it is one: where its type stands
abbrev pub leaf_part : List ℕ → ℕ → Part
leaf_part c at = record { Fault = λ e. ⊥; Kind = λ place. (field c at 0 ≡ 0) × (place ≡ field c at 1) }

-- the leaves of a block
abbrev pub leaves_part : List ℕ → Siblings → Part
leaves_part c block = record {
  Fault = λ e. ⊥;
  Kind = λ place. (r : ℕ) × IsSibling c block r × (leaf_part c r).Kind place;
}

-- the block that the node of a character names, one of these records: it lies outside the cache, or has the leaf
abbrev pub below_part : List ℕ → (ℕ → Type 0) → ℕ → Part
below_part c Among character = record {
  Fault = λ e. (block : Siblings) × IsNamedBlock c Among character block × IsBlockFault c block.first 12 block.count e;
  Kind = λ place. (block : Siblings) × IsNamedBlock c Among character block × (leaves_part c block).Kind place;
}

-- the last `depth` bytes of a name lead from the roots of the tree at `at` to the record at r
abbrev pub LeadsAlong : List ℕ → ℕ → List ℕ → ℕ → ℕ → Type 0
LeadsAlong c at name zero r = IsSibling c (record { first = field c at 1; count = field c at 0 }) r
LeadsAlong c at name (suc depth) r =
    (block : Siblings) × IsNamedBlock c (LeadsAlong c at name depth) (get_or (reverse name) depth 0) block × IsSibling c block r

-- The tree at `at` lies in the cache as far as a walk along a name begins there.
pub record LiesTree (c : List ℕ) (at : ℕ) (name : List ℕ) : Type 0 where
  -- Its head does.
  pub head : LiesHead c at 8
  -- So do its roots, where the name has a last byte that is not zero.
  pub roots : 0 < get_or name (length name - 1) 0 → LiesBlock c (field c at 1) 12 (field c at 0)

-- the tree at `at` along a name: its head, its roots, and each block that an ending of the name leads to
abbrev pub tree_part : List ℕ → ℕ → List ℕ → Part
tree_part c at name = record {
  Fault = λ e. IsHeadFault c at 8 e ⊎ IsBlockFault c (field c at 1) 12 (field c at 0) e
      ⊎ (depth : ℕ) × (below_part c (LeadsAlong c at name depth) (get_or (reverse name) depth 0)).Fault e;
  Kind = λ place. (depth : ℕ) × (below_part c (LeadsAlong c at name depth) (get_or (reverse name) depth 0)).Kind place;
}
