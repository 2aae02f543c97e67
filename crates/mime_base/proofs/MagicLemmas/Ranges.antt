-- Values that are sought at the offsets of a range, in the steps of a search.
use Rattle.std.proofs.Common.{◌≡◌, ℕ, zero, suc, ◌+◌, ◌<◌, ◌≤◌, ◌||◌, Bool, true, false, cond, min, List, length}
use Rattle.std.proofs.Common.{Option, refl, ap, ap₂, ◌∙◌, arith}
use Rattle.std.proofs.lemmas.Bool.{and_from, and_left, and_right, le-leb, lt-leb}
use Rattle.mime_base.specs.Magic.Holds.{bytes_of_mask, equals_at, equals_from}
use Rattle.mime_base.specs.Magic.Masking.{equal_bytes, window_equals}
use Rattle.mime_base.specs.Magic.Ranges.{compared_at, compared_from}
use Rattle.mime_base.specs.Magic.{PlainLine, line_from}
use Rattle.mime_base.specs.declared.magic.host.Host.{Host}
use Rattle.mime_base.proofs.MagicLemmas.HoldingLines.{equals_from-outside, window}

module _ (own : PlainLine) (host : Host) (content : List ℕ) where
  -- how many bytes of a window are compared
  abbrev pub window_cost : ℕ → ℕ
  window_cost at =
      min (equal_bytes own.value (bytes_of_mask own.mask) own.word host (window own host content at) + 1) (length own.value)

  -- of one that lies wholly in the content
  pub compared_at-inside : (at : ℕ) → at + length own.value ≤ length content → compared_at own host content at ≡ window_cost at
  compared_at-inside at within =
      ap (λ b. cond b (window_cost at) 0) (le-leb (at + length own.value) (length content) within)

  -- no offset is left
  pub compared_from-none : (at : ℕ) → compared_from own host content at 0 ≡ 0
  unfolding compared_from
  compared_from-none at = refl

  -- one of the offsets that are left, and those after it
  pub compared_from-suc : (at n : ℕ) → compared_from own host content at (suc n)
      ≡ compared_at own host content at + cond (equals_at own host content at) 0 (compared_from own host content (suc at) n)
  unfolding compared_from
  compared_from-suc at n = refl

  -- the same, where it is known whether the window equals the value
  compared_from-more : (at n left : ℕ) (equal : Bool) → left ≡ n + 1 → at + length own.value ≤ length content →
      equals_at own host content at ≡ equal →
      compared_from own host content at left ≡ window_cost at + cond equal 0 (compared_from own host content (at + 1) n)
  compared_from-more at n left equal is within e =
      let one_less : left ≡ suc n = omega arith in
      let next : suc at ≡ at + 1 = omega arith in
      ap (compared_from own host content at) one_less ∙ compared_from-suc at n
      ∙ ap (λ (k : ℕ). compared_at own host content at
      + cond (equals_at own host content at) 0 (compared_from own host content k n)) next
      ∙ ap₂ (λ (k : ℕ) (b : Bool). k + cond b 0 (compared_from own host content (at + 1) n)) (compared_at-inside at within) e

  -- its window equals the value
  pub compared_from-found : (at n left : ℕ) → left ≡ n + 1 → at + length own.value ≤ length content →
      window_equals own.value (bytes_of_mask own.mask) own.word host (window own host content at) ≡ true →
      compared_from own host content at left ≡ window_cost at
  compared_from-found at n left is within equal =
      let here = and_from _ _ (le-leb (at + length own.value) (length content) within) equal in
      let more = compared_from-more at n left true is within here in
      omega arith

  -- its window differs
  pub compared_from-passed : (at n left : ℕ) → left ≡ n + 1 → at + length own.value ≤ length content →
      window_equals own.value (bytes_of_mask own.mask) own.word host (window own host content at) ≡ false →
      compared_from own host content at left ≡ window_cost at + compared_from own host content (at + 1) n
  compared_from-passed at n left is within differs = compared_from-more at n left false is within (and_right _ _ differs)

  -- no window lies wholly in the content from here on
  pub compared_from-outside : (at range : ℕ) → length content < at + length own.value
      → compared_from own host content at range ≡ 0
  unfolding compared_from
  compared_from-outside at zero beyond = refl
  compared_from-outside at (suc range) beyond =
      let none = lt-leb (at + length own.value) (length content) beyond in
      let rest = compared_from-outside (suc at) range (omega arith) in
      ap₂ (λ (fits equal : Bool). cond fits (window_cost at) 0 + cond equal 0 (compared_from own host content (suc at) range))
      none (and_left _ _ none)
      ∙ (omega (arith, rest))

  -- offsets of which no window lies wholly in the content are left out
  pub equals_from-room : (at n m left : ℕ) → left ≡ n + m → (0 < m → length content < at + n + length own.value) →
      equals_from own host content at left ≡ equals_from own host content at n
  unfolding equals_from
  equals_from-room at zero zero left is beyond = ap (equals_from own host content at) is
  equals_from-room at zero (suc m) left is beyond =
      equals_from-outside own host content at left (omega (arith, beyond (omega arith)))
  equals_from-room at (suc n) m left is beyond =
      let one_less : left ≡ suc (n + m) = omega arith in
      ap (equals_from own host content at) one_less
      ∙ ap (λ b. equals_at own host content at || b)
      (equals_from-room (suc at) n m (n + m) refl (λ some. omega (arith, beyond some)))

  -- and none of their bytes is compared
  pub compared_from-room : (at n m left : ℕ) → left ≡ n + m → (0 < m → length content < at + n + length own.value) →
      compared_from own host content at left ≡ compared_from own host content at n
  unfolding compared_from
  compared_from-room at zero zero left is beyond = ap (compared_from own host content at) is
  compared_from-room at zero (suc m) left is beyond = compared_from-outside at left (omega (arith, beyond (omega arith)))
  compared_from-room at (suc n) m left is beyond =
      let one_less : left ≡ suc (n + m) = omega arith in
      ap (compared_from own host content at) one_less
      ∙ ap (λ (k : ℕ). compared_at own host content at + cond (equals_at own host content at) 0 k)
      (compared_from-room (suc at) n m (n + m) refl (λ some. omega (arith, beyond some)))

-- the start and the range of a line play no part
pub equals_from-anywhere : (start range word : ℕ) (value : List ℕ) (mask : Option (List ℕ)) (host : Host) (content : List ℕ)
    (at n : ℕ) → equals_from (line_from start range word value mask) host content at n
    ≡ equals_from (line_from 0 0 word value mask) host content at n
unfolding equals_from
equals_from-anywhere start range word value mask host content at zero = refl
equals_from-anywhere start range word value mask host content at (suc n) =
    ap (λ b. equals_at (line_from 0 0 word value mask) host content at || b)
    (equals_from-anywhere start range word value mask host content (suc at) n)

-- nor in what is compared
pub compared_from-anywhere : (start range word : ℕ) (value : List ℕ) (mask : Option (List ℕ)) (host : Host) (content : List ℕ)
    (at n : ℕ) → compared_from (line_from start range word value mask) host content at n
    ≡ compared_from (line_from 0 0 word value mask) host content at n
unfolding compared_from
compared_from-anywhere start range word value mask host content at zero = refl
compared_from-anywhere start range word value mask host content at (suc n) =
    ap (λ (k : ℕ). compared_at (line_from 0 0 word value mask) host content at
    + cond (equals_at (line_from 0 0 word value mask) host content at) 0 k)
    (compared_from-anywhere start range word value mask host content (suc at) n)
