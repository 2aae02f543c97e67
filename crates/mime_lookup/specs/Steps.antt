-- What the steps of a lookup over a cache have in common: which databases they answer for, and why they stop.
use Rattle.std.specs.Prelude.{◌≡◌, ◌⊎◌, ℕ, ◌≤◌, List, length, Result, IfErr}
use Rattle.mime_base.specs.Database.{PlainDatabase}
use Rattle.mime_base.specs.Database.Limits.{IsWithinLimits}
use Rattle.mime_base.specs.Format.Packed.{Packed, value_length}
use Rattle.mime_base.specs.Format.Spells.{Spells}
use Rattle.mime_lookup.specs.Affords.{magic_records}
use Rattle.mime_lookup.specs.Cached.{cause_of}
use Rattle.mime_lookup.specs.CheckingOrder.{GlobsDecide}
use Rattle.mime_lookup.specs.Spelling.{SpellsGlobs, SpellsMagic, SpellsPairs}
use Rattle.mime_lookup.specs.Spent.{IsUsedUp}
use Rattle.mime_lookup.specs.declared.order.Order.{Order}
use Rattle.mime_lookup.specs.declared.stopped.Cause.{Cause}
use Rattle.mime_lookup.specs.declared.stopped.Cause.TheVariants as cause
use Rattle.mime_view.specs.declared.fault.CacheFault.{CacheFault}
use Rattle.mime_view.specs.declared.fault.CacheFault.TheVariants.{Spent}
use Rattle.mime_view.specs.declared.spending.Spending.{Spending}

-- enough of a database stands in a cache for a lookup: all of it, or glob rules that decide alone
abbrev pub Suffices : List ℕ → List ℕ → Order → Type 0 → PlainDatabase → Type 0
Suffices c name order NoContent b =
    (IsWithinLimits b × Spells c b) ⊎ (SpellsGlobs c b × GlobsDecide b name order NoContent)

-- enough of it stands to look into a content: its magic, or there is no content
abbrev pub SufficesForContent : List ℕ → Type 0 → PlainDatabase → Type 0
SufficesForContent c NoContent b = SpellsMagic c b ⊎ NoContent

-- enough of it stands to choose among types: its pairs, or its aliases where there is one type at most
abbrev pub SufficesForChoice : List ℕ → List (List ℕ) → PlainDatabase → Type 0
SufficesForChoice c kinds b = SpellsPairs c b ⊎ ((length kinds ≤ 1) × SpellsGlobs c b)

-- When a step of a lookup stops.
pub record Stops (IsUsed : Type 0) (IsEnough IsRead : PlainDatabase → Type 0) (stop : Cause) : Type 0 where
  -- It is spent only where what may be taken of the cache is used up.
  pub spent : stop ≡ cause.Cache Spent → IsUsed
  -- Where enough of a database stands and is afforded, memory was refused, or a read failed where one is made.
  pub need : (b : PlainDatabase) → IsEnough b → (stop ≡ cause.OutOfMemory) ⊎ ((stop ≡ cause.Read) × IsRead b)

-- why a step stops that reads nothing of the content: with this of the budget before and after, and for memory alone where enough stands
abbrev pub StopsUnread : {X : Type 0} → List ℕ → Type 0 → Spending → Spending → (PlainDatabase → Type 0) → Result X CacheFault → Type 0
StopsUnread c NoContent old new IsEnough result =
    IfErr result (λ e. Stops (IsUsedUp c NoContent old.budget new.budget) IsEnough (λ _. ⊥) (cause_of e))

-- why a step stops that sniffs a content: for memory alone where enough stands, and each record and value byte of magic is left
abbrev pub StopsSniffing : {X : Type 0} → List ℕ → Type 0 → (PlainDatabase → Type 0) → Spending → Spending → Result X CacheFault → Type 0
StopsSniffing c NoContent IsEnough old new result = StopsUnread c NoContent old new (λ b. IsEnough b
    × (magic_records b ≤ old.budget.records) × (value_length b.sections ≤ old.budget.value_bytes)) result

-- A database's cache is small enough and packed, so that it affords a lookup.
pub record IsPacked (c : List ℕ) (b : PlainDatabase) : Type 0 where
  -- It has at most 268,435,456 bytes.
  pub small : length c ≤ 268435456
  -- The records that a reader may visit, and the values, take no more than it has.
  pub packed : Packed c b
