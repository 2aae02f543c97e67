-- What the steps give that find the types of a name, and what they cost.
use Rattle.std.specs.Prelude.{◌≡◌, ◌⊎◌, ℕ, ◌+◌, ◌*◌, ◌<◌, ◌≤◌, List, length, Result, Ok, Err, IfErr, IfOk, OnOk}
use Rattle.mime_base.specs.Database.{PlainDatabase, pairs_of}
use Rattle.mime_lookup.specs.Affords.{rule_records}
use Rattle.mime_lookup.specs.Bounds.{near_max}
use Rattle.mime_lookup.specs.Cached.{AreNameTypes, others_count}
use Rattle.mime_lookup.specs.Choice.{candidates, kept}
use Rattle.mime_lookup.specs.Costs.{glob_cost}
use Rattle.mime_lookup.specs.declared.cached.name_types.NameTypes.{NameTypes}
use Rattle.mime_view.specs.Hits.{near}
use Rattle.mime_view.specs.NameHits.{near_records}
use Rattle.mime_view.specs.Spending.{Gives, Spends, per_record}
use Rattle.mime_view.specs.declared.fault.CacheFault.{CacheFault}
use Rattle.mime_view.specs.declared.fault.CacheFault.TheVariants.{OutOfMemory}
use Rattle.mime_view.specs.declared.name_hits.NameHits.{NameHits}
use Rattle.mime_view.specs.declared.name_hits.Which.{Which}
use Rattle.mime_view.specs.declared.name_hits.Which.TheVariants.{Candidates, Kept}
use Rattle.mime_view.specs.declared.spending.Spending.{Spending}

-- the types of the rules of a name that are asked for
abbrev pub types_for : Which → PlainDatabase → List ℕ → List (List ℕ)
types_for Kept b name = kept (pairs_of b) b.rules name
types_for Candidates b name = candidates (pairs_of b) b.rules name

-- The types of the rules that are asked for, each after one alias step, and how many of these are kept.
pub record AreResolved (which : Which) (b : PlainDatabase) (name : List ℕ) (hits : NameHits) : Type 0 where
  -- They are these types.
  pub types : hits.kinds ≡ types_for which b name
  -- As many of the first are those of the kept rules.
  pub count : hits.kept ≡ length (kept (pairs_of b) b.rules name)
  -- They are no more than the rules near the name.
  pub few : length hits.kinds ≤ near name b.rules

-- What is given as the types of the rules that are asked for, where the glob rules of a database stand.
pub record GivesKinds (which : Which) (b : PlainDatabase) (name : List ℕ) (old new : Spending) (result : Result NameHits CacheFault) :
    Type 0 where
  -- They are these types.
  pub answer : IfOk result (AreResolved which b name)
  -- With a record left for each that the rules may take, only memory is refused.
  pub need : (rule_records b ≤ old.budget.records) ⊎ (near_records name b.rules ≤ old.budget.records) → IfErr result (λ e. e ≡ OutOfMemory)
  -- No more are taken than all rules may take.
  pub within : old.budget.records ≤ new.budget.records + rule_records b
  -- Nor more than those near the name.
  pub nearly : old.budget.records ≤ new.budget.records + near_records name b.rules

-- What they cost: a search for the rules, and an alias step for each type that is found.
pub record CostsKinds (name : ℕ) (old new : Spending) (result : Result NameHits CacheFault) : Type 0 where
  -- That many are found.
  pub found : ℕ
  -- An answer has all of them.
  pub given : IfOk result (λ hits. length hits.kinds ≡ found)
  -- Each was paid for by a record.
  pub paid : found + new.budget.records ≤ old.budget.records
  -- The search is charged, with 29 nodes for each step.
  pub cost : Spends (per_record (256 * (name + 3))) (glob_cost name + 29 * found) (256 * (glob_cost name + 29 * found)) old new

-- What is given as the types of a name, where the glob rules of a database stand.
pub record GivesTypes (which : Which) (b : PlainDatabase) (name : List ℕ) (old new : Spending) (result : Result NameTypes CacheFault)
    : Type 0 where
  -- They are these; with a record left for each that the rules may take, only memory is refused, and no more is taken.
  pub given : Gives (AreNameTypes (types_for which b name) (kept (pairs_of b) b.rules name)) (rule_records b) old new result
  -- The nodes keep to the bound by the rules near the name, with an alias step to spare.
  pub near : OnOk result (new.meter.nodes + 29 < old.meter.nodes + near_max (length name) (near name b.rules))

-- the nodes that the types are still to cost: 29 for each that is left to choose among
abbrev pub owed_types : Result NameTypes CacheFault → ℕ
owed_types (Ok types) = 29 * others_count types
owed_types (Err e) = 0
