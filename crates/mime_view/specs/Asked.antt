-- Which lines of magic a walk asked: those whose value bytes it took of the budget.
use Rattle.std.specs.Prelude.{◌≡◌, ℕ, ◌+◌, ◌*◌, ◌<◌, ◌≤◌, List, All, length, sum_by}
use Rattle.mime_base.specs.Cache.Bytes.{field}
use Rattle.mime_view.specs.Magic.{LeadsToLine}
use Rattle.mime_view.specs.declared.budget.Budget.{Budget}

-- the value bytes that lines state, whose records stand at these offsets
abbrev pub stated_bytes : List ℕ → List ℕ → ℕ
stated_bytes c lines = sum_by (λ r. field c r 3) lines

-- Lines were asked, and just the value bytes that they state were taken.
pub record AsksLines (c : List ℕ) (Is : ℕ → Type 0) (old new : Budget) : Type 0 where
  -- Where their records stand, each as often as it was asked.
  pub lines : List ℕ
  -- Each is one of these lines.
  pub each : All Is lines
  -- Each took a record.
  pub few : length lines + new.records ≤ old.records
  -- The value bytes that they state were taken, and no others.
  pub taken : old.value_bytes ≡ new.value_bytes + stated_bytes c lines

-- The line at r is that at `at`, on this level, or below it.
pub record IsLineBelow (c : List ℕ) (at level r : ℕ) : Type 0 where
  -- How many levels below it the line is.
  pub steps : ℕ
  -- It is on one of 64 levels.
  pub within : level + steps ≤ 63
  -- It is below that one.
  pub leads : LeadsToLine c steps at r

-- the line at r is one of that many lines on a level, or below one
abbrev pub IsLineAmong : List ℕ → ℕ → ℕ → ℕ → ℕ → Type 0
IsLineAmong c first count level r = (i : ℕ) × (i < count) × IsLineBelow c (first + 32 * i) level r

-- the line at r is one of the section at `at`, or below one
abbrev pub IsSectionLine : List ℕ → ℕ → ℕ → Type 0
IsSectionLine c at r = IsLineAmong c (field c at 3) (field c at 2) 0 r
