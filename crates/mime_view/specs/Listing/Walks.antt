-- What a listing of the rules of a cache says of its records, whatever the bytes are.
use Rattle.std.specs.Prelude.{ℕ, ◌+◌, ◌*◌, ◌<◌, All, List, length}
use Rattle.mime_base.specs.Cache.Bytes.{field}
use Rattle.mime_view.specs.Listing.{PlainListed}
use Rattle.mime_view.specs.Listing.Faults.{IsNode}
use Rattle.mime_view.specs.Listing.Sources.{AddsSome, IsListRule, IsRuleAt, IsSiblingsRule, IsTreeRule, LeadsBy}
use Rattle.mime_view.specs.Lists.{LiesHead, LiesList}
use Rattle.mime_view.specs.Magic.{LiesBlock}

-- The children of the node at r, below that many characters and its own, lie in the cache.
pub record LiesNode (c : List ℕ) (r above : ℕ) : Type 0 where
  -- They do.
  pub children : LiesBlock c (field c r 2) 12 (field c r 1)
  -- No more than 254 characters lead to them.
  pub short : above < 254

-- What is below that many siblings, which are below that many characters, lies in the cache.
pub record LieBelow (c : List ℕ) (first count above : ℕ) : Type 0 where
  -- The children of each node to which characters lead from one of them.
  pub nodes : (i : ℕ) (path : List ℕ) (r : ℕ) → i < count → LeadsBy c path (first + 12 * i) r → IsNode c r
      → LiesNode c r (above + length path)

-- The tree at `at` lies in the cache with all of its nodes.
pub record LiesWholeTree (c : List ℕ) (at : ℕ) : Type 0 where
  -- Its head does.
  pub head : LiesHead c at 8
  -- So do its roots.
  pub roots : LiesBlock c (field c at 1) 12 (field c at 0)
  -- And the children of each node.
  pub below : LieBelow c (field c at 1) (field c at 0) 0

-- What that many siblings below an ending add to a listing.
pub record ListsSiblings (c : List ℕ) (first count : ℕ) (ending : List ℕ) (before after : List PlainListed) : Type 0 where
  -- Each rule that is added is that of a leaf to which characters lead from one of them.
  pub rules : AddsSome (IsSiblingsRule c first count ending) before after
  -- The children of each node on the way lie in the cache.
  pub lie : LieBelow c first count (length ending)

-- What the tree at `at` adds to a listing.
pub record ListsTree (c : List ℕ) (at : ℕ) (before after : List PlainListed) : Type 0 where
  -- Each rule that is added is that of a leaf to which characters lead from a root.
  pub rules : AddsSome (IsTreeRule c at) before after
  -- All of the tree lies in the cache.
  pub lies : LiesWholeTree c at

-- What the list at `at` adds to a listing.
pub record ListsEntries (c : List ℕ) (at : ℕ) (before after : List PlainListed) : Type 0 where
  -- Each rule that is added is that of an entry.
  pub rules : AddsSome (IsListRule c at) before after
  -- The entries lie in the cache.
  pub lies : LiesList c at 12

-- The two lists at these offsets and the tree lie in the cache.
pub record LieRules (c : List ℕ) (literals tree globs : ℕ) : Type 0 where
  -- The literal list.
  pub literal_list : LiesList c literals 12
  -- The tree, with all of its nodes.
  pub whole_tree : LiesWholeTree c tree
  -- The glob list.
  pub glob_list : LiesList c globs 12

-- What is listed of a literal list, a tree and a glob list at these offsets.
pub record ListsRules (c : List ℕ) (literals tree globs : ℕ) (listed : List PlainListed) : Type 0 where
  -- Each rule is one of the three.
  pub rules : All (IsRuleAt c literals tree globs) listed
  -- All three lie in the cache.
  pub lie : LieRules c literals tree globs
