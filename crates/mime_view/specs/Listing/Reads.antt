-- The literal list, the suffix tree and the glob list as they are read by a program that lists them.
use Rattle.std.specs.Prelude.{◌≡◌, ℕ, ◌+◌, ◌*◌, ◌<◌, ◌≤◌, List, [], ◌∷◌, length, Ok}
use Rattle.mime_base.specs.Cache.Bytes.{field}
use Rattle.mime_base.specs.Cache.Texts.{text_at}
use Rattle.mime_base.specs.Format.Stored.{stored_text, weight_and_flags}
use Rattle.mime_base.specs.Format.Tree.{Tree, bare, leaf, node, sibling_count}
use Rattle.mime_base.specs.declared.database.rule.GlobRule.{GlobRule}
use Rattle.mime_view.specs.Magic.{LiesBlock}

-- the record at `at` is that of a rule, with its text
pub record ReadsEntry (c : List ℕ) (at : ℕ) (rule : GlobRule) : Type 0 where
  pub text : text_at c (field c at 0) ≡ Ok (stored_text rule)
  pub kind : text_at c (field c at 1) ≡ Ok rule.kind
  pub flags : field c at 2 ≡ weight_and_flags rule
  pub weight : rule.weight < 256

-- rules are read one after another
abbrev pub ReadsEntries : List ℕ → ℕ → List GlobRule → Type 0
ReadsEntries c at [] = Unit {0}
ReadsEntries c at (rule ∷ rules) = ReadsEntry c at rule × ReadsEntries c (at + 12) rules

-- the list at `at` is of these rules
pub record ReadsListedRules (c : List ℕ) (at : ℕ) (rules : List GlobRule) : Type 0 where
  pub count : field c at 0 ≡ length rules
  pub inside : at + 4 + 12 * length rules ≤ length c
  pub entries : ReadsEntries c (at + 4) rules

-- the record at `at` is a leaf below an ending, which is that of its rule
pub record ReadsListedLeaf (c : List ℕ) (at : ℕ) (ending : List ℕ) (rule : GlobRule) : Type 0 where
  pub some : 0 < length ending
  pub kind : text_at c (field c at 1) ≡ Ok rule.kind
  pub flags : field c at 2 ≡ weight_and_flags rule
  pub weight : rule.weight < 256
  pub text : stored_text rule ≡ 42 ∷ ending

-- siblings below an ending are read one after another, and what is below each
abbrev pub ReadsListedTree : List ℕ → ℕ → List ℕ → Tree → Type 0
ReadsListedTree c at ending bare = Unit {0}
ReadsListedTree c at ending (leaf rule rest) =
    (field c at 0 ≡ 0) × ReadsListedLeaf c at ending rule × ReadsListedTree c (at + 12) ending rest
ReadsListedTree c at ending (node character below rest) =
    (field c at 0 ≡ character) × (0 < character) × (character < 256) × (length ending < 254)
    × (field c at 1 ≡ sibling_count below) × LiesBlock c (field c at 2) 12 (sibling_count below)
    × ReadsListedTree c (field c at 2) (character ∷ ending) below × ReadsListedTree c (at + 12) ending rest

-- the tree at `at` is this one
pub record ReadsSuffixTree (c : List ℕ) (at : ℕ) (tree : Tree) : Type 0 where
  pub head : at + 8 ≤ length c
  pub count : field c at 0 ≡ sibling_count tree
  pub block : LiesBlock c (field c at 1) 12 (sibling_count tree)
  pub siblings : ReadsListedTree c (field c at 1) [] tree
