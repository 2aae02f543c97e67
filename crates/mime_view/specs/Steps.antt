-- What a step of a search for a name's hits does.
use Rattle.std.specs.Prelude.{◌≡◌, ◌⊎◌, ℕ, ◌+◌, ◌*◌, ◌≤◌, List, length, Result, All, IfErr, OnOk}
use Rattle.mime_base.specs.Cache.Bytes.{Stands, field}
use Rattle.mime_base.specs.Format.Records.{Standing}
use Rattle.mime_base.specs.Kept.{FitsRank}
use Rattle.mime_base.specs.declared.database.rule.GlobRule.{GlobRule}
use Rattle.mime_view.specs.Gathered.{AddsAt, Offers, PlainHits}
use Rattle.mime_view.specs.Lists.{IsListFault, IsNamedFault, IsNamedPlace, IsNoText}
use Rattle.mime_view.specs.Spending.{Spends, per_record}
use Rattle.mime_view.specs.declared.fault.CacheFault.{CacheFault}
use Rattle.mime_view.specs.declared.fault.CacheFault.TheVariants.{OutOfMemory, Spent}
use Rattle.mime_view.specs.declared.query.Progress.{Progress}
use Rattle.mime_view.specs.declared.query.Query.{Query}
use Rattle.mime_view.specs.declared.spending.Spending.{Spending}

-- the hits and what is spent as one value
abbrev pub progress_of : PlainHits → Spending → Progress
progress_of hits spending = record { hits = hits; spending = spending }

-- why a step stops: a fault of what it reads, no records left, or no memory
abbrev pub IsSearchStop : (CacheFault → Type 0) → Progress → CacheFault → Type 0
IsSearchStop Fault new e = Fault e ⊎ ((e ≡ Spent) × (new.spending.budget.records ≡ 0)) ⊎ (e ≡ OutOfMemory)

-- A part of a cache that a search reads.
pub record Part : Type 1 where
  -- Why it can't be read.
  pub Fault : CacheFault → Type 0
  -- Where it says that the types of its rules stand.
  pub Kind : ℕ → Type 0

-- nothing
abbrev pub no_part : Part
no_part = record { Fault = λ e. ⊥; Kind = λ place. ⊥ }

-- the entry at `at` of a list of rules: the text that it names, and the type
abbrev pub entry_part : List ℕ → ℕ → Part
entry_part c at = record { Fault = IsNoText c (field c at 0); Kind = λ place. place ≡ field c at 1 }

-- that many entries of a list of rules, from `first` on
abbrev pub entries_part : List ℕ → ℕ → ℕ → Part
entries_part c first count = record { Fault = IsNamedFault c first 12 count 0; Kind = IsNamedPlace c first 12 count 1 }

-- the list of rules at `at`, with its entries
abbrev pub list_part : List ℕ → ℕ → Part
list_part c at = record {
  Fault = λ e. IsListFault c at 12 e ⊎ IsNamedFault c (at + 4) 12 (field c at 0) 0 e;
  Kind = IsNamedPlace c (at + 4) 12 (field c at 0) 1;
}

-- one of two parts
abbrev pub either_part : Part → Part → Part
either_part one other = record {
  Fault = λ e. one.Fault e ⊎ other.Fault e;
  Kind = λ place. one.Kind place ⊎ other.Kind place;
}

-- What a step does where the rules that it reads stand.
pub record FindsRules {X : Type 0} (c : List ℕ) (fits : Type 0) (rules : List GlobRule) (visits : ℕ) (old new : Progress)
    (result : Result X CacheFault) : Type 0 where
  -- It offers these rules, if their ranks have room for them.
  pub answer : fits → OnOk result (Offers c rules old.hits new.hits)
  -- Where that many records are left, it stops only if it is out of memory.
  pub need : visits ≤ old.spending.budget.records → IfErr result (λ e. e ≡ OutOfMemory)
  -- It takes no more of them.
  pub most : old.spending.budget.records ≤ new.spending.budget.records + visits

-- of rules that stand somewhere, a search offers these, if their ranks have room for them, by that many visits
abbrev pub FindsStanding : Query → (List GlobRule → Type 0) → (List GlobRule → List GlobRule) → (List GlobRule → ℕ)
    → Progress → Progress → Result (Unit {0}) CacheFault → Type 0
FindsStanding query Stand offered visited old new result =
    (rules : List GlobRule) → Stand rules
    → FindsRules query.counted.now (All FitsRank rules) (offered rules) (visited rules) old new result

-- the same of rules that stand at an offset
abbrev pub FindsAt : Query → (Standing → ℕ → List GlobRule → Type 0) → ℕ → (List GlobRule → List GlobRule) → (List GlobRule → ℕ)
    → Progress → Progress → Result (Unit {0}) CacheFault → Type 0
FindsAt query At at offered visited old new result =
    FindsStanding query (At (Stands query.counted.now) at) offered visited old new result

-- What a step does on any bytes.
pub record Searches {X : Type 0} (part : Part) (each more : ℕ) (old new : Progress) (result : Result X CacheFault) : Type 0 where
  -- Why it stops.
  pub fault : IfErr result (IsSearchStop part.Fault new)
  -- What is asked for stays.
  pub asked : OnOk result (new.hits.which ≡ old.hits.which)
  -- Each hit that it adds was paid for by a record.
  pub few : OnOk result (length new.hits.offers + new.spending.budget.records ≤ length old.hits.offers + old.spending.budget.records)
  -- It is of a type whose place the part names.
  pub added : OnOk result (AddsAt part.Kind old.hits.offers new.hits.offers)
  -- A record costs a node and at most `each` bytes; `more` nodes come besides, each with at most 256 bytes.
  pub cost : Spends (per_record each) more (256 * more) old.spending new.spending
