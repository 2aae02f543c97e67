-- What the bytes of a type name and of a pattern may be, as tests that compute.
pub mod Rows
use Rattle.std.specs.Prelude.{ℕ, ◌-◌, Bool, not, ◌&&◌, ◌==◌, nat_lt, nat_le, List, length, slice_index}
use Rattle.std.specs.List.{list_all, list_any}

-- above the space (32), and no colon (58)
abbrev pub is_name_byte : ℕ → Bool
is_name_byte b = nat_lt 32 b && not (b == 58)

-- a slash (47), which is neither the first byte nor the last
abbrev pub has_inner_slash : List ℕ → Bool
has_inner_slash bytes =
    list_any (λ b. b == 47) bytes
    && not (slice_index bytes 0 == 47) && not (slice_index bytes (length bytes - 1) == 47)

-- 3 to 255 such bytes, with an inner slash
unfoldable pub is_type_name : List ℕ → Bool
is_type_name bytes =
    nat_le 3 (length bytes) && nat_le (length bytes) 255
    && list_all is_name_byte bytes && has_inner_slash bytes

-- no zero byte, newline (10) or colon (58)
abbrev pub is_pattern_byte : ℕ → Bool
is_pattern_byte b = not (b == 0) && not (b == 10) && not (b == 58)

-- 1 to 255 such bytes
unfoldable pub is_pattern : List ℕ → Bool
is_pattern bytes = nat_lt 0 (length bytes) && nat_le (length bytes) 255 && list_all is_pattern_byte bytes

-- no zero byte or newline (10)
abbrev pub is_icon_byte : ℕ → Bool
is_icon_byte b = not (b == 0) && not (b == 10)

-- 1 to 255 such bytes
unfoldable pub is_icon_name : List ℕ → Bool
is_icon_name bytes = nat_lt 0 (length bytes) && nat_le (length bytes) 255 && list_all is_icon_byte bytes
