-- A search for a subclass over a cache: what it answers, and what it takes.
use Rattle.std.specs.Prelude.{◌≡◌, ℕ, ◌+◌, ◌≤◌, Bool, List, length, Result, IfErr, OnOk}
use Rattle.mime_base.specs.Cache.Bytes.{field}
use Rattle.mime_base.specs.Database.{PlainDatabase, pairs_of}
use Rattle.mime_base.specs.Database.Subclass.{Pairs}
use Rattle.mime_lookup.specs.Ancestry.{AnswersSearch, unmarked}
use Rattle.mime_lookup.specs.Spelling.{SpellsPairs}
use Rattle.mime_view.specs.Parents.{is_marked}
use Rattle.mime_view.specs.Spending.{Price}
use Rattle.mime_view.specs.declared.budget.Budget.{Budget}
use Rattle.mime_view.specs.declared.fault.CacheFault.{CacheFault}
use Rattle.mime_view.specs.declared.fault.CacheFault.TheVariants.{OutOfMemory}
use Rattle.mime_view.specs.declared.spending.Spending.{Spending}

-- the bytes of a parent's record, its alias step, its expansion and its test: 256 for each of 59 nodes
abbrev pub search_cost : ℕ
search_cost = 15104

-- what an expansion pays for a record: its own node, and the 29 of an alias step, each with at most 256 bytes
abbrev pub expansion_price : Price
expansion_price = record { nodes = 30; bytes = 7680; value_byte = 0 }

-- whether a type is marked, by the parent list of a cache
abbrev pub marked_by : List ℕ → List ℕ → List ℕ → Bool
marked_by c marks = is_marked c (field c 0 2) marks

-- What a step of it takes over pairs that stand, with these types marked before and after.
pub record TakesPairs {X : Type 0} (pairs : Pairs) (before after : List ℕ → Bool) (old new : Spending) (result : Result X CacheFault)
    : Type 0 where
  -- With a record left for each pair whose type is not marked, only memory is refused.
  pub need : unmarked pairs.parents before ≤ old.budget.records → IfErr result (λ e. e ≡ OutOfMemory)
  -- A record that is taken is of a pair whose type is marked for it.
  pub owed : OnOk result (unmarked pairs.parents after + old.budget.records ≤ unmarked pairs.parents before + new.budget.records)

-- what a search answers over a cache whose pairs stand, with these marks before and after
abbrev pub AnswersMarked : List ℕ → List ℕ → List ℕ → List ℕ → List ℕ → Result Bool CacheFault → Type 0
AnswersMarked c kind base before after result = (b : PlainDatabase) → SpellsPairs c b →
    AnswersSearch (pairs_of b) kind base (marked_by c before) (marked_by c after) result

-- what a step of it takes there: no more records than there are pairs of the types that it marks
abbrev pub TakesMarked : {X : Type 0} → List ℕ → List ℕ → List ℕ → Spending → Spending → Result X CacheFault → Type 0
TakesMarked c before after old new result = (b : PlainDatabase) → SpellsPairs c b →
    TakesPairs (pairs_of b) (marked_by c before) (marked_by c after) old new result

-- when a search stops: where the pairs stand and a record is left for each parent, only for memory
abbrev pub NeedsParents : {X : Type 0} → List ℕ → Budget → Result X CacheFault → Type 0
NeedsParents c budget result =
    (b : PlainDatabase) → SpellsPairs c b → length b.parents ≤ budget.records → IfErr result (λ e. e ≡ OutOfMemory)
