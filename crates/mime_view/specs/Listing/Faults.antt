-- Why the rules of a cache are not listed.
use Rattle.std.specs.Prelude.{◌≡◌, ◌⊎◌, ℕ, zero, suc, ◌+◌, ◌*◌, ◌<◌, List}
use Rattle.mime_base.specs.Cache.Bytes.{field}
use Rattle.mime_view.specs.Lists.{IsHeadFault, IsListFault, IsNoText}
use Rattle.mime_view.specs.Magic.{IsBlockFault}
use Rattle.mime_view.specs.declared.fault.CacheFault.{CacheFault}
use Rattle.mime_view.specs.declared.fault.CacheFault.TheVariants.{OutOfMemory, Spent, TooDeep}

-- no record is left
abbrev pub IsSpent : ℕ → CacheFault → Type 0
IsSpent left e = (e ≡ Spent) × (left ≡ 0)

-- why the entry at `at` gives no rule: its text, its type, the records left, or memory
abbrev pub IsRuleFault : List ℕ → ℕ → ℕ → CacheFault → Type 0
IsRuleFault c at left e = IsNoText c (field c at 0) e ⊎ IsNoText c (field c at 1) e ⊎ IsSpent left e ⊎ (e ≡ OutOfMemory)

-- why a list of rules at `at` is not listed: it does not lie in the cache, or one of its entries gives no rule
abbrev pub IsRulesFault : List ℕ → ℕ → ℕ → CacheFault → Type 0
IsRulesFault c at left e = IsListFault c at 12 e ⊎ (i : ℕ) × (i < field c at 0) × IsRuleFault c (at + 4 + 12 * i) left e

-- the record at `at` is a node, and its character fits a byte
pub record IsNode (c : List ℕ) (at : ℕ) : Type 0 where
  pub some : 0 < field c at 0
  pub byte : field c at 0 < 256

-- that many nodes, each below the one before, lead from the record at `at` down to the one at r
abbrev pub Leads : List ℕ → ℕ → ℕ → ℕ → Type 0
Leads c zero at r = r ≡ at
Leads c (suc steps) at r = IsNode c at × ((i : ℕ) × (i < field c at 1) × Leads c steps (field c at 2 + 12 * i) r)

-- why the record at r, below that many characters, is not listed: what it leads to, the depth, a leaf's type, the records left, or memory
abbrev pub IsSiblingFault : List ℕ → ℕ → ℕ → ℕ → CacheFault → Type 0
IsSiblingFault c r above left e =
    (IsNode c r × IsBlockFault c (field c r 2) 12 (field c r 1) e) ⊎ (IsNode c r × (above ≡ 254) × (e ≡ TooDeep))
    ⊎ ((field c r 0 ≡ 0) × IsNoText c (field c r 1) e) ⊎ IsSpent left e ⊎ (e ≡ OutOfMemory)

-- One of that many siblings below `above` characters is not listed, or what one of them leads to.
pub record IsSiblingsFault (c : List ℕ) (first count above left : ℕ) (e : CacheFault) : Type 0 where
  -- Which sibling it is that leads there.
  pub i : ℕ
  -- It is one of them.
  pub within : i < count
  -- How many characters lead on from it.
  pub steps : ℕ
  -- The record that is not listed.
  pub r : ℕ
  -- They lead to it.
  pub leads : Leads c steps (first + 12 * i) r
  -- Why it is not.
  pub fault : IsSiblingFault c r (above + steps) left e

-- why the tree at `at` is not listed: its head, its roots, or what is below them
abbrev pub IsListedTreeFault : List ℕ → ℕ → ℕ → CacheFault → Type 0
IsListedTreeFault c at left e =
    IsHeadFault c at 8 e ⊎ IsBlockFault c (field c at 1) 12 (field c at 0) e
    ⊎ IsSiblingsFault c (field c at 1) (field c at 0) 0 left e

-- why the rules of a literal list, a tree and a glob list at these offsets are not listed: one of the three
abbrev pub IsListsFault : List ℕ → ℕ → ℕ → ℕ → ℕ → CacheFault → Type 0
IsListsFault c literals tree globs left e =
    IsRulesFault c literals left e ⊎ IsListedTreeFault c tree left e ⊎ IsRulesFault c globs left e

-- why the rules of a cache are not listed: one of its three lists, which its header names
abbrev pub IsListingFault : List ℕ → ℕ → CacheFault → Type 0
IsListingFault c left e = IsListsFault c (field c 0 3) (field c 0 4) (field c 0 5) left e
