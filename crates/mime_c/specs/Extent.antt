-- What a cache says of how much of a content it can look at, whatever its bytes are, and what C gets of it.
use Rattle.std.specs.Prelude.{◌≡◌, ℕ, ◌+◌, ◌<◌, List, length, Result, IfErr, IfOk, IsOkAnd}
use Rattle.mime_base.specs.Cache.Bytes.{Stands, field}
use Rattle.mime_base.specs.Format.Header.{HeaderAt, Offsets}
use Rattle.mime_base.specs.Format.Magic.{MagicAt}
use Rattle.mime_base.specs.Magic.{PlainSection}
use Rattle.mime_base.specs.Magic.Extent.{sections_extent}
use Rattle.mime_c.specs.Reader.{IsReaderCall}
use Rattle.mime_c.specs.declared.report.Report.{Report}
use Rattle.mime_view.specs.declared.fault.CacheFault.{CacheFault}
use Rattle.mime_view.specs.declared.fault.CacheFault.TheVariants.{OutOfRange}

-- All that is promised of the extent of a cache that opens.
pub record IsExtent (c : List ℕ) (result : Result ℕ CacheFault) : Type 0 where
  -- Where magic stands, it is how far into a content its lines can look.
  pub answer : (offsets : Offsets) (sections : List PlainSection) → HeaderAt (Stands c) offsets →
      MagicAt (Stands c) offsets.magic sections → IsOkAnd result (λ extent. extent ≡ sections_extent sections)
  -- On any bytes it is the number that stands there.
  pub stated : IfOk result (λ extent. extent ≡ field c (field c 0 6) 1)
  -- The only fault is that the head of the list does not lie in the cache.
  pub fault : IfErr result (λ e. (length c < field c 0 6 + 12) × (e ≡ OutOfRange (field c 0 6)))

-- the number is the extent; where there is none, it stays
abbrev pub IsAskedExtent : List ℕ → ℕ → ℕ → Report → Type 0
IsAskedExtent c before after told = IsReaderCall c (IsExtent c) 2 0 (λ extent. after ≡ extent) (after ≡ before) told
