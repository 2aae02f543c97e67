use Rattle.std.proofs.Common.{◌≡◌, ℕ, length, min}
use Rattle.mime_text.specs.Magic.Reading.{digits_at}
use Rattle.mime_text.proofs.magic.number.digits.Given as goal

-- n is the value of the digits so far
abbrev pub invariant-loop-b : goal.invariant-loop-b
invariant-loop-b l = (n : ℕ) × (l.value ≡ min n 4294967296) × (digits_at n l.rest ≡ digits_at 0 l.bytes)

abbrev pub decreases-loop-b : goal.decreases-loop-b
decreases-loop-b l = length l.rest
