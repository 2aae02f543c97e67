-- When a window of bytes equals a magic value: under a mask, and in the host's order of bytes.
use Rattle.std.specs.Prelude.{◌≡◌, refl, ℕ, ◌%◌, Bool, true, false, ◌&&◌, ◌==◌, nat_eq, if◌then◌else◌, List, [], ◌∷◌}
use Rattle.std.specs.Prelude.{length, bit_and, bytes_eq, codes}
use Rattle.std.specs.List.{common_prefix_len}
use Rattle.mime_base.specs.declared.magic.host.Host.{Host}
use Rattle.mime_base.specs.declared.magic.host.Host.TheVariants.{Little, Big}

-- bytes under a mask, which keeps the bits that it has
abbrev pub masked : List ℕ → List ℕ → List ℕ
masked [] mask = []
masked (b ∷ bytes) [] = b ∷ bytes
masked (b ∷ bytes) (m ∷ mask) = bit_and b m ∷ masked bytes mask

-- the mask of a value, a byte for each of the value's; past the mask's end they are all ones
abbrev pub mask_over : List ℕ → List ℕ → List ℕ
mask_over [] mask = []
mask_over (_ ∷ value) [] = 255 ∷ mask_over value []
mask_over (_ ∷ value) (m ∷ mask) = m ∷ mask_over value mask

-- each group of two bytes reversed
abbrev pub reversed_twos : List ℕ → List ℕ
reversed_twos (a ∷ b ∷ rest) = b ∷ a ∷ reversed_twos rest
reversed_twos rest = rest

-- each group of four bytes reversed
abbrev pub reversed_fours : List ℕ → List ℕ
reversed_fours (a ∷ b ∷ c ∷ d ∷ rest) = d ∷ c ∷ b ∷ a ∷ reversed_fours rest
reversed_fours rest = rest

-- how many bytes are a group that is reversed: on a little-endian host the word, if it is 2 or 4 and
-- divides the value; else 1
abbrev pub group_of : ℕ → Host → ℕ → ℕ
group_of word Big size = 1
group_of word Little size =
    if word == 2 && size % 2 == 0 then 2 else (if word == 4 && size % 4 == 0 then 4 else 1)

-- each group of two or four bytes reversed; groups of one stay
abbrev pub reversed_groups : ℕ → List ℕ → List ℕ
reversed_groups group bytes =
    if group == 2 then reversed_twos bytes
    else (if group == 4 then reversed_fours bytes else bytes)

-- a value, or the mask over it, in the host's order
abbrev pub in_host_order : ℕ → Host → List ℕ → List ℕ
in_host_order word host bytes = reversed_groups (group_of word host (length bytes)) bytes

-- bytes under the mask of a value, in the host's order
abbrev pub under_mask : List ℕ → List ℕ → ℕ → Host → List ℕ → List ℕ
under_mask value mask word host bytes = masked bytes (in_host_order word host (mask_over value mask))

-- whether a window under the mask equals the value under the mask, the value in the host's order
unfoldable pub window_equals : List ℕ → List ℕ → ℕ → Host → List ℕ → Bool
window_equals value mask word host window =
    bytes_eq (under_mask value mask word host window)
    (under_mask value mask word host (in_host_order word host value))

-- how many bytes from the front are equal so
unfoldable pub equal_bytes : List ℕ → List ℕ → ℕ → Host → List ℕ → ℕ
equal_bytes value mask word host window =
    common_prefix_len nat_eq (under_mask value mask word host window)
    (under_mask value mask word host (in_host_order word host value))

-- `ab` under DF DF equals `AB`, and not under FF
capitals_masked : window_equals (codes "ab") (0xDF ∷ 0xDF ∷ []) 1 Little (codes "AB") ≡ true
unfolding window_equals
capitals_masked = refl

capitals : window_equals (codes "ab") [] 1 Little (codes "AB") ≡ false
unfolding window_equals
capitals = refl

-- 01 02 with a word of 2 stands as it is on a big-endian host, reversed on the other
words_big : window_equals (1 ∷ 2 ∷ []) [] 2 Big (1 ∷ 2 ∷ []) ≡ true
unfolding window_equals
words_big = refl

words_little : window_equals (1 ∷ 2 ∷ []) [] 2 Little (2 ∷ 1 ∷ []) ≡ true
unfolding window_equals
words_little = refl

words_not_reversed : window_equals (1 ∷ 2 ∷ []) [] 2 Little (1 ∷ 2 ∷ []) ≡ false
unfolding window_equals
words_not_reversed = refl

-- the mask is reversed with the value
mask_reversed : window_equals (1 ∷ 2 ∷ []) (0 ∷ 0xFF ∷ []) 2 Little (2 ∷ 9 ∷ []) ≡ true
unfolding window_equals
mask_reversed = refl

-- a word that does not divide the value reverses nothing
odd_value : window_equals (1 ∷ 2 ∷ 3 ∷ []) [] 2 Little (1 ∷ 2 ∷ 3 ∷ []) ≡ true
unfolding window_equals
odd_value = refl
