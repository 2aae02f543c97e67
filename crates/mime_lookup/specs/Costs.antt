-- What a step of a lookup over a cache costs, whatever the cache's bytes are.
use Rattle.std.specs.Prelude.{◌≡◌, ℕ, ◌+◌, ◌*◌, ◌<◌, ◌≤◌, All, List, length}
use Rattle.std.specs.Borrow.{Bor}
use Rattle.mime_base.specs.declared.meter.Meter.{Meter}
use Rattle.mime_lookup.specs.Ancestry.{kinds_of}
use Rattle.mime_view.specs.Spending.{Looks, Price, Spends}
use Rattle.mime_view.specs.declared.spending.Spending.{Spending}

-- what a lookup pays: 59 nodes and that many bytes for a record, and that many bytes for a value byte
abbrev pub lookup_price : ℕ → ℕ → Price
lookup_price each value = record { nodes = 59; bytes = each; value_byte = value }

-- a step pays for what it takes, and `more` nodes come besides, each with at most 256 bytes
abbrev pub Costs : ℕ → ℕ → ℕ → Spending → Spending → Type 0
Costs each value more old new = Spends (lookup_price each value) more (256 * more) old new

-- A step that costs that much, with `owed` nodes that are still to come, each with at most 256 bytes.
pub record CostsOwing (owed each value more : ℕ) (old new : Spending) : Type 0 where
  -- It does without them.
  pub alone : Costs each value more old new
  -- The nodes with them.
  pub nodes : new.meter.nodes + owed + 59 * new.budget.records ≤ old.meter.nodes + 59 * old.budget.records + more
  -- The bytes with them.
  pub bytes : new.meter.bytes + 256 * owed + each * new.budget.records + value * new.budget.value_bytes
      ≤ old.meter.bytes + each * old.budget.records + value * old.budget.value_bytes + 256 * more

-- A step that takes nothing of the budget: it visits at most that many records, each with at most 256 bytes.
pub record LooksAt (nodes : ℕ) (old new : Spending) : Type 0 where
  -- The budget stays.
  pub budget : new.budget ≡ old.budget
  -- The meter rises by no more.
  pub looks : Looks nodes (256 * nodes) old.meter new.meter

-- A step that visits records for a content, and none without one.
pub record LooksForContent (NoContent : Type 0) (nodes : ℕ) (old new : Spending) : Type 0 where
  -- Without one it looks at nothing.
  pub nothing : NoContent → new ≡ old
  -- Else it visits at most that many records, and takes nothing of the budget.
  pub looks : LooksAt nodes old new

-- A step that visits no record, and compares at most that many bytes.
pub record ComparesAtMost (most : ℕ) (old new : Meter) : Type 0 where
  -- No record is visited.
  pub nodes : new.nodes ≡ old.nodes
  -- The bytes never fall.
  pub rises : old.bytes ≤ new.bytes
  -- No more are compared.
  pub bytes : new.bytes ≤ old.bytes + most

-- A step that visits no record, and compares types with one another.
pub record ComparesTypes (types : List (Bor (List ℕ))) (old new : Meter) : Type 0 where
  -- No record is visited.
  pub nodes : new.nodes ≡ old.nodes
  -- The bytes never fall.
  pub rises : old.bytes ≤ new.bytes
  -- Where each type has fewer than 256 bytes, at most 256 are compared for each.
  pub bytes : All (λ kind. length kind < 256) (kinds_of types) → new.bytes ≤ old.bytes + 256 * length types

-- the bytes of a record, for a name of that many bytes
abbrev pub record_cost : ℕ → ℕ
record_cost name = 256 * (name + 64)

-- the nodes that a search for the types of a name adds besides its records
abbrev pub glob_cost : ℕ → ℕ
glob_cost name = 29 * (2 * name + 2) + 1

-- a step costs a search for the types of a name, and that many nodes besides
abbrev pub CostsSearch : ℕ → ℕ → ℕ → Spending → Spending → Type 0
CostsSearch name value more old new = Costs (record_cost name) value (glob_cost name + more) old new
