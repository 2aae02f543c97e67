-- What is read back of a cache in a run, and what is paid before.
use Rattle.std.specs.Prelude.{◌≡◌, ℕ, ◌+◌, ◌-◌, ◌/◌, Bool, true, false, List, Option, Some, None, IfSome, length, min, nat_le}
use Rattle.mime_base.specs.Meter.{raised}
use Rattle.mime_lookup.specs.declared.order.Order.TheVariants.{ContentOnly}
use Rattle.mime_tool.specs.LineSteps.{bytes_in, tells_cost}
use Rattle.mime_tool.specs.declared.line.Outcome.{Outcome}
use Rattle.mime_tool.specs.declared.line.Outcome.TheVariants as outcome
use Rattle.mime_tool.specs.declared.preparing.payments.Due.{Due}
use Rattle.mime_tool.specs.declared.preparing.payments.Due.TheVariants as due
use Rattle.mime_tool.specs.declared.preparing.payments.Part.{Part}
use Rattle.mime_tool.specs.declared.preparing.payments.Part.TheVariants.{Magic, Names}
use Rattle.mime_tool.specs.declared.preparing.payments.Payments.{Payments}
use Rattle.mime_tool.specs.declared.line.lookup.Lookup.{Lookup}
use Rattle.mime_tool.specs.declared.prepaid.Prepaid.{Prepaid}

-- what is paid before a part of a cache is read back: as many records as that may visit, and some 2.4 times as many for magic, of
-- which each takes as long as two that a walk visits, and more
abbrev pub price : Part → List ℕ → ℕ
price Names cache = 5 + length cache / 4 + length cache / 8
price Magic cache = 2 + length cache / 8 + length cache / 40

-- what a content pays for magic: as many records as it visited, and, for being opened and read, 256 more, but no more than it visited
abbrev pub content_payment : ℕ → ℕ
content_payment visited = raised visited (min visited 256)

-- so much more is paid for what is still to be prepared
abbrev pub pays : ℕ → Option Prepaid → Option Prepaid
pays visited (Some it) = Some (record it { paid = raised it.paid visited })
pays visited None = None

-- what a FILE that came to this pays: what it compared pays for an index, and the records that it visited for what names need; if its
-- content was asked for bytes, that pays for lines, and its records but for the entries of the glob list for magic
abbrev pub paid_by : Outcome → Bool → Payments → Payments
paid_by (outcome.Typed kind cost) true payments = record payments {
  index = pays cost.meter.bytes payments.index;
  lines = pays 1 payments.lines;
  names = pays cost.meter.nodes payments.names;
  magic = pays (content_payment (cost.meter.nodes - payments.listed)) payments.magic;
}
paid_by (outcome.Typed kind cost) false payments = record payments {
  index = pays cost.meter.bytes payments.index;
  names = pays cost.meter.nodes payments.names;
}
paid_by outcome.CannotOpen asked payments = payments
paid_by outcome.NameTooLong asked payments = payments
paid_by outcome.CannotRead asked payments = payments

-- nothing is paid for a part yet; where costs are told it is never read back
abbrev pub owed_for : Part → List ℕ → Bool → Option Prepaid
owed_for part cache true = None
owed_for part cache false = Some (record { paid = 0; cost = price part cache })

-- a part is never read back, or nothing is paid for it yet
abbrev pub IsOwed : Part → List ℕ → Bool → Option Prepaid → Type 0
IsOwed part cache told owed = IfSome owed (λ it. owed_for part cache told ≡ Some it)

-- What is to be prepared for a lookup, of which nothing is paid yet.
pub record AreOwed (lookup : Lookup) (payments : Payments) : Type 0 where
  -- An index is made once something was compared.
  pub index : IfSome payments.index (λ it. it ≡ record { paid = 0; cost = 1 })
  -- Its magic is prepared once a content was asked for bytes.
  pub lines : IfSome payments.lines (λ it. it ≡ record { paid = 0; cost = 1 })
  -- What names need costs so much.
  pub names : IsOwed Names (bytes_in lookup.by) (tells_cost lookup.by) payments.names
  -- So does the magic list.
  pub magic : IsOwed Magic (bytes_in lookup.by) (tells_cost lookup.by) payments.magic
  -- What names need is never read back for contents alone.
  pub content_only : lookup.order ≡ ContentOnly → payments.names ≡ None
  -- No index of names is made for them.
  pub unnamed : lookup.order ≡ ContentOnly → payments.index ≡ None
  -- The magic list is never read back for names alone.
  pub name_only : lookup.name_only ≡ true → payments.magic ≡ None

-- the part is still to be prepared, and paid
abbrev pub is_due : Option Prepaid → Bool
is_due (Some it) = nat_le it.cost it.paid
is_due None = false

-- nothing is paid
abbrev pub IsUnpaid : Payments → Type 0
IsUnpaid payments =
    (is_due payments.lines ≡ false) × (is_due payments.index ≡ false) × (is_due payments.names ≡ false) × (is_due payments.magic ≡ false)

-- what is paid is taken, and is never due again; there is nothing only where nothing is paid
abbrev pub TakesDue : Payments → Payments → Option Due → Type 0
TakesDue old new (Some due.Lines) = (is_due old.lines ≡ true) × (new ≡ record old { lines = None })
TakesDue old new (Some due.Index) = (is_due old.index ≡ true) × (new ≡ record old { index = None })
TakesDue old new (Some (due.Part Names)) = (is_due old.names ≡ true) × (new ≡ record old { names = None })
TakesDue old new (Some (due.Part Magic)) = (is_due old.magic ≡ true) × (new ≡ record old { magic = None })
TakesDue old new None = (new ≡ old) × IsUnpaid old
