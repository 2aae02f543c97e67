-- What a step costs: what it takes of the budget, and what it adds to the meter.
use Rattle.std.specs.Prelude.{◌≡◌, ℕ, ◌+◌, ◌*◌, ◌≤◌, List, length, Result, IfErr, IfOk}
use Rattle.mime_base.specs.Meter.{raised}
use Rattle.mime_base.specs.declared.meter.Meter.{Meter}
use Rattle.mime_view.specs.declared.budget.Budget.{Budget}
use Rattle.mime_view.specs.declared.fault.CacheFault.{CacheFault}
use Rattle.mime_view.specs.declared.fault.CacheFault.TheVariants.{OutOfMemory}
use Rattle.mime_view.specs.declared.spending.Spending.{Spending}

-- a meter and a budget as one value
abbrev pub spending_of : Meter → Budget → Spending
spending_of meter budget = record { meter = meter; budget = budget }

-- What is paid at most for a record of the budget, in nodes and in bytes, and for a value byte, in bytes.
pub record Price : Type 0 where
  pub nodes : ℕ
  pub bytes : ℕ
  pub value_byte : ℕ

-- a record costs a node and that many bytes, and no value bytes are taken
abbrev pub per_record : ℕ → Price
per_record bytes = record { nodes = 1; bytes = bytes; value_byte = 0 }

-- A step pays for each record and each value byte that it takes; `nodes` nodes and `bytes` bytes come besides.
pub record Spends (price : Price) (nodes bytes : ℕ) (old new : Spending) : Type 0 where
  -- Records are taken, and never given back.
  pub records : new.budget.records ≤ old.budget.records
  -- So are value bytes.
  pub value_bytes : new.budget.value_bytes ≤ old.budget.value_bytes
  -- Where they have no price, none is taken.
  pub untouched : price.value_byte ≡ 0 → new.budget.value_bytes ≡ old.budget.value_bytes
  -- The meter's nodes never fall.
  pub rises : old.meter.nodes ≤ new.meter.nodes
  -- Nor do its bytes.
  pub bytes_rise : old.meter.bytes ≤ new.meter.bytes
  -- No more nodes are added than were paid for, and those that come besides.
  pub most_nodes : new.meter.nodes + price.nodes * new.budget.records
      ≤ old.meter.nodes + price.nodes * old.budget.records + nodes
  -- Nor more bytes.
  pub most_bytes : new.meter.bytes + price.bytes * new.budget.records + price.value_byte * new.budget.value_bytes
      ≤ old.meter.bytes + price.bytes * old.budget.records + price.value_byte * old.budget.value_bytes + bytes
  -- Each record that is taken adds a node, until the sum stops.
  pub fair : raised old.meter.nodes old.budget.records ≤ new.meter.nodes + new.budget.records

-- the same of a meter and a budget apart, each before and after
abbrev pub Pays : Price → ℕ → ℕ → Meter → Meter → Budget → Budget → Type 0
Pays price nodes bytes meter_old meter_new budget_old budget_new =
    Spends price nodes bytes (spending_of meter_old budget_old) (spending_of meter_new budget_new)

-- how many nodes the halving adds for a name at most, in the literal list and in the tree, for both cases
abbrev pub halving : List ℕ → ℕ
halving name = 29 * (2 * length name + 2) + 1

-- what a search for a name's hits costs: for each record a text for each byte of the name, and `texts` more; the halving comes besides
abbrev pub SpendsOnName : List ℕ → ℕ → Spending → Spending → Type 0
SpendsOnName name texts old new = Spends (per_record (256 * (length name + texts))) (halving name) (256 * halving name) old new

-- A step that takes nothing of the budget: it adds at most that many nodes and bytes.
pub record Looks (nodes bytes : ℕ) (old new : Meter) : Type 0 where
  -- The nodes never fall.
  pub rises : old.nodes ≤ new.nodes
  -- Nor do the bytes.
  pub bytes_rise : old.bytes ≤ new.bytes
  -- No more nodes are added.
  pub most_nodes : new.nodes ≤ old.nodes + nodes
  -- Nor more bytes.
  pub most_bytes : new.bytes ≤ old.bytes + bytes

-- What a step gives where what it reads stands, and that many records are enough.
pub record Gives {X : Type 0} (Answer : X → Type 0) (records : ℕ) (old new : Spending) (result : Result X CacheFault) : Type 0 where
  -- Unless it stops, this is the answer.
  pub answer : IfOk result Answer
  -- With that many records left it stops only where it is out of memory.
  pub need : records ≤ old.budget.records → IfErr result (λ e. e ≡ OutOfMemory)
  -- It takes no more of them.
  pub most : old.budget.records ≤ new.budget.records + records
