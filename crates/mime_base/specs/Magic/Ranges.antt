-- How many bytes of the windows of a range are compared, and the line that a record of a cache states.
use Rattle.std.specs.Prelude.{◌≡◌, ◌≤◌, ◌<◌, refl, ℕ, ◌+◌, ◌-◌, ◌^◌, zero, suc, Bool, ◌&&◌, nat_le, nat_lt, min, if◌then◌else◌, List}
use Rattle.std.specs.Prelude.{length, take, drop, Some, None, codes}
use Rattle.mime_base.specs.Cache.Bytes.{both_lie, optional_mask, value_at}
use Rattle.mime_base.specs.Magic.Holds.{bytes_of_mask, equals_at, equals_from}
use Rattle.mime_base.specs.Magic.{PlainLine, line_from}
use Rattle.mime_base.specs.Magic.Masking.{equal_bytes, window_equals}
use Rattle.mime_base.specs.Meter.{raised}
use Rattle.mime_base.specs.declared.cache.stated_value.StatedValue.{StatedValue}
use Rattle.mime_base.specs.declared.magic.host.Host.{Host}
use Rattle.mime_base.specs.declared.magic.host.Host.TheVariants.{Little}
use Rattle.mime_base.specs.declared.meter.Meter.{Meter}

-- how many bytes of the window at an offset are compared: up to and including the first that differs, else all; none where
-- the window does not lie wholly in the content
abbrev pub compared_at : PlainLine → Host → List ℕ → ℕ → ℕ
compared_at own host content at =
    if nat_le (at + length own.value) (length content)
    then min (equal_bytes own.value (bytes_of_mask own.mask) own.word host (take (length own.value) (drop at content)) + 1)
    (length own.value)
    else 0

-- how many are compared at that many offsets from this one on, up to and including the first whose window equals the value
unfoldable pub compared_from : PlainLine → Host → List ℕ → ℕ → ℕ → ℕ
compared_from own host content at zero = 0
compared_from own host content at (suc range) =
    compared_at own host content at
    + (if equals_at own host content at then 0 else compared_from own host content (suc at) range)

-- The windows from one offset on are passed up to another, and what is left of the range decides it.
pub record PassesWindows (own : PlainLine) (host : Host) (content : List ℕ) (start at end : ℕ) (old new : Meter) : Type 0 where
  -- It is the first, or one after it.
  pub low : start ≤ at
  -- It is in the range, or at its end.
  pub high : at ≤ end
  -- Some window of what is left equals the value exactly where some window of the whole does.
  pub equal : equals_from own host content start (end - start) ≡ equals_from own host content at (end - at)
  -- The bytes compared in what was passed are counted.
  pub bytes : raised old.bytes (compared_from own host content start (end - start))
      ≡ raised new.bytes (compared_from own host content at (end - at))
  -- They are a number of 64 bits.
  pub most : new.bytes < 2 ^ 64
  -- No record is counted.
  pub nodes : new.nodes ≡ old.nodes

-- whether the first window of a range lies wholly in a content, and there is one
abbrev pub window_fits : ℕ → ℕ → ℕ → List ℕ → Bool
window_fits size start range content = nat_lt 0 range && nat_le (start + size) (length content)

-- the line of a value in a cache, with its start and its range
abbrev pub stated_line : List ℕ → StatedValue → ℕ → ℕ → PlainLine
stated_line c value start range =
    line_from start range value.word (value_at c value.at value.size) (Some (optional_mask c value.mask_at value.size))

-- how many bytes of the windows of its range are compared; where value or mask is not in the cache, none
abbrev pub compared_stated : List ℕ → StatedValue → ℕ → ℕ → Host → List ℕ → ℕ
compared_stated c value start range host content =
    if both_lie c value.at value.mask_at value.size then compared_from (stated_line c value start range) host content start range else 0

-- `ab` from the offset 0 on in `xaabc`: of the windows `xa` and `aa` and `ab` the bytes 1, 2 and 2
three_windows : compared_from (line_from 0 9 1 (codes "ab") None) Little (codes "xaabc") 0 9 ≡ 5
unfolding compared_from equal_bytes window_equals
three_windows = refl

-- `z`: each of the 3 windows, and none past the end
no_window : compared_from (line_from 0 9 1 (codes "z") None) Little (codes "abc") 0 9 ≡ 3
unfolding compared_from equal_bytes window_equals
no_window = refl
