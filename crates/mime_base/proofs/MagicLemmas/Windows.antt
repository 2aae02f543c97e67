-- A window against a value under its mask, byte by byte.
use Rattle.std.proofs.Common.{◌≡◌, ℕ, ◌+◌, ◌<◌, ◌≤◌, ◌==◌, nat_eq, true, List, length, get_or, drop, bit_and, ap, ◌∙◌}
use Rattle.std.proofs.Common.{sym, arith, length-drop}
use Rattle.std.proofs.lemmas.Bool.{eq-eqb, ne_eqb}
use Rattle.std.proofs.lemmas.List.Sums.{common_prefix_len-drop_no, common_prefix_len-drop_yes, common_prefix_len-le}
use Rattle.std.specs.List.{common_prefix_len}
use Rattle.mime_base.specs.Magic.Masking.{equal_bytes, in_host_order, under_mask, window_equals}
use Rattle.mime_base.specs.declared.magic.host.Host.{Host}
use Rattle.mime_base.proofs.MagicLemmas.Masks.{bits, get_or-under_mask, length-under_mask, place}
use Rattle.mime_base.proofs.MagicLemmas.Mirroring.{mirrors}
use Rattle.mime_base.proofs.CacheLemmas.Prefixes.{bytes_eq-prefix}

module _ (value mask : List ℕ) (word : ℕ) (host : Host) (window : List ℕ)
    (same : length window ≡ length value) where
  -- the value under its mask
  abbrev pub left : List ℕ
  left = under_mask value mask word host window

  -- the window under its mask
  abbrev pub right : List ℕ
  right = under_mask value mask word host (in_host_order word host value)

  -- the value under its mask is as long as the window
  left_size : length left ≡ length window
  left_size = length-under_mask value mask word host window

  -- so is the window under its mask
  right_size : length right ≡ length window
  right_size =
      length-under_mask value mask word host (in_host_order word host value) ∙ (mirrors word host value).size ∙ sym same

  -- byte i of the window and byte p of the value, which stood there before the groups were reversed,
  -- and the bits k that the mask keeps of both
  module _ (i p k : ℕ) (below : i < length window) (place_is : p ≡ place value word host i)
      (bits_are : k ≡ get_or mask p 255) where
    kept_bits : k ≡ bits value mask word host i
    kept_bits = bits_are ∙ ap (λ (n : ℕ). get_or mask n 255) place_is

    left_byte : get_or left i 0 ≡ bit_and (get_or window i 0) k
    left_byte =
        get_or-under_mask value mask word host window i same (omega arith)
        ∙ ap (bit_and (get_or window i 0)) (sym kept_bits)

    right_byte : get_or right i 0 ≡ bit_and (get_or value p 0) k
    right_byte =
        let moves = mirrors word host value in
        get_or-under_mask value mask word host (in_host_order word host value) i moves.size (omega arith)
        ∙ ap (λ (b : ℕ). bit_and b (bits value mask word host i)) (moves.moved i 0 (omega arith))
        ∙ ap (λ (n : ℕ). bit_and (get_or value n 0) (bits value mask word host i)) (sym place_is)
        ∙ ap (bit_and (get_or value p 0)) (sym kept_bits)

    -- a byte that differs ends what is equal
    pub stops : (bit_and (get_or window i 0) k ≡ bit_and (get_or value p 0) k → ⊥)
        → common_prefix_len nat_eq (drop i left) (drop i right) ≡ 0
    stops differ =
        common_prefix_len-drop_no nat_eq left right i 0 0 (omega (arith, left_size)) (omega (arith, right_size))
        (ne_eqb _ _ (λ e. differ (sym left_byte ∙ e ∙ right_byte)))

    -- a byte that does not is counted
    pub goes_on : bit_and (get_or window i 0) k ≡ bit_and (get_or value p 0) k
        → common_prefix_len nat_eq (drop i left) (drop i right)
        ≡ 1 + common_prefix_len nat_eq (drop (i + 1) left) (drop (i + 1) right)
    goes_on equal =
        common_prefix_len-drop_yes nat_eq left right i 0 0 (omega (arith, left_size)) (omega (arith, right_size))
        (eq-eqb _ _ (left_byte ∙ equal ∙ sym right_byte))

  -- nothing is left to compare at the end
  pub at_end : (i : ℕ) → length window ≤ i → common_prefix_len nat_eq (drop i left) (drop i right) ≡ 0
  at_end i end =
      let reach = common_prefix_len-le nat_eq (drop i left) (drop i right) in
      omega (arith, length-drop i left, left_size)

  -- what the count tells of the window
  pub counted : (n : ℕ) → n ≡ common_prefix_len nat_eq left right
      → (n ≡ equal_bytes value mask word host window)
      × ((n == length window) ≡ window_equals value mask word host window)
  unfolding equal_bytes window_equals
  counted n is = (
    is,
    ap (λ (k : ℕ). k == length window) is
        ∙ ap (λ (k : ℕ). common_prefix_len nat_eq left right == k) (sym left_size)
        ∙ bytes_eq-prefix left right (left_size ∙ sym right_size),
  )

-- no bytes equal no bytes
pub nothing_equals : (value mask : List ℕ) (word : ℕ) (host : Host) (window : List ℕ)
    → length value ≡ 0 → length window ≡ 0
    → true ≡ window_equals value mask word host window
nothing_equals value mask word host window no_value no_window =
    let same : length window ≡ length value = omega arith in
    let rest = at_end value mask word host window same 0 (omega arith) in
    sym (eq-eqb 0 (length window) (omega arith)) ∙ (counted value mask word host window same 0 (sym rest)).1
