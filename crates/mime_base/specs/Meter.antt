-- Sums that stop at the greatest number of 64 bits, and what is counted.
use Rattle.std.specs.Prelude.{◌≡◌, ◌≤◌, ℕ, ◌+◌, min}
use Rattle.mime_base.specs.declared.meter.Meter.{Meter}

-- the sum, or 2 ^ 64 - 1
abbrev pub raised : ℕ → ℕ → ℕ
raised n k = min (n + k) 18446744073709551615

-- That many bytes are counted, and no record.
pub record CountsBytes (count : ℕ) (old new : Meter) : Type 0 where
  -- No record is counted.
  pub nodes : new.nodes ≡ old.nodes
  -- The bytes are, until the sum stops.
  pub bytes : new.bytes ≡ raised old.bytes count
  -- The count of bytes never falls.
  pub rises : old.bytes ≤ new.bytes
