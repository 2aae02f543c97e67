-- Where a byte of a reversed group stood.
use Rattle.std.specs.Prelude.{ℕ, ◌+◌, ◌-◌, ◌*◌, ◌%◌, ◌==◌, if◌then◌else◌}

-- the place of byte i before each group of 2 or 4 bytes was reversed
abbrev pub mirrored : ℕ → ℕ → ℕ
mirrored group i =
    if group == 2 then i + 1 - 2 * (i % 2) else (if group == 4 then i + 3 - 2 * (i % 4) else i)
