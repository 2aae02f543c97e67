-- Windows that are skipped, since one of their first two bytes is not the value's.
use Rattle.std.proofs.Common.{◌≡◌, ℕ, zero, suc, ◌+◌, ◌-◌, ◌<◌, ◌≤◌, ◌==◌, Bool, true, false, cond, List, []}
use Rattle.std.proofs.Common.{length, get_or, take, drop, bit_and, Some, refl, sym, ap, ap₂, ◌∙◌, arith, length-drop}
use Rattle.std.specs.List.{count_by}
use Rattle.std.proofs.lemmas.Bool.{eqb-false, eqb-true, ne_eqb}
use Rattle.std.proofs.lemmas.List.{drop_more, get_or-drop, get_or-take, length-take-le}
use Rattle.std.proofs.lemmas.List.Sums.{sum_by-cons}
use Rattle.mime_base.specs.Magic.Holds.{equals_from}
use Rattle.mime_base.specs.Magic.Masking.{equal_bytes, group_of, window_equals}
use Rattle.mime_base.specs.Magic.Mirrored.{mirrored}
use Rattle.mime_base.specs.Magic.Pairs.{PassesPairs}
use Rattle.mime_base.specs.Magic.Ranges.{compared_from}
use Rattle.mime_base.specs.Magic.{PlainLine, line_from}
use Rattle.mime_base.specs.declared.magic.host.Host.{Host}
use Rattle.mime_base.proofs.MagicLemmas.HoldingLines.{equals_from-passed}
use Rattle.mime_base.proofs.MagicLemmas.Ranges.{compared_from-passed, window_cost}
use Rattle.mime_base.proofs.MagicLemmas.Skipping.{differs, first_byte, whole_byte}
use Rattle.mime_base.proofs.MagicLemmas.Windows.{counted, goes_on, stops}

module _ (value : List ℕ) (word : ℕ) (host : Host) (content : List ℕ) (two : 1 < length value)
    (single : group_of word host (length value) ≡ 1)
    (value_bytes : (i : ℕ) → get_or value i 0 < 256) (content_bytes : (i : ℕ) → get_or content i 0 < 256) where
  -- the line whose value is sought
  abbrev own : PlainLine
  own = line_from 0 0 word value (Some [])

  -- whether the first byte of the value stands at a place
  abbrev is_first : ℕ → Bool
  is_first b = b == get_or value 0 0

  -- a window of which the second byte is not the value's, and the first is
  second_differs : (bytes : List ℕ) → length bytes ≡ length value → get_or bytes 1 0 < 256
      → get_or bytes 0 0 ≡ get_or value 0 0 → (get_or bytes 1 0 ≡ get_or value 1 0 → ⊥)
      → (equal_bytes value [] word host bytes ≡ 1) × (window_equals value [] word host bytes ≡ false)
  second_differs bytes same small is other =
      let front = goes_on value [] word host bytes same 0 0 255 (omega arith) (sym (ap (λ (g : ℕ). mirrored g 0) single)) refl
      (ap (λ (b : ℕ). bit_and b 255) is) in
      let none = stops value [] word host bytes same 1 1 255 (omega arith) (sym (ap (λ (g : ℕ). mirrored g 1) single)) refl
      (λ e. other (sym (whole_byte _ small) ∙ e ∙ whole_byte _ (value_bytes 1))) in
      let told = counted value [] word host bytes same 1 (sym (front ∙ ap (λ (n : ℕ). 1 + n) none)) in
      (sym told.0, sym told.1 ∙ ne_eqb 1 (length bytes) (λ e. omega arith))

  -- the second byte of a window
  second_byte : (at : ℕ) → get_or (take (length value) (drop at content)) 1 0 ≡ get_or content (at + 1) 0
  second_byte at = get_or-take (length value) (drop at content) 1 0 two ∙ get_or-drop at content 1 0

  -- what is compared of a window without the pair
  one_window : (at : ℕ) → at + length value ≤ length content
      → (get_or content at 0 ≡ get_or value 0 0 → get_or content (at + 1) 0 ≡ get_or value 1 0 → ⊥)
      → (window_cost own host content at ≡ 1 + cond (is_first (get_or content at 0)) 1 0)
      × (window_equals value [] word host (take (length value) (drop at content)) ≡ false)
  one_window at inside other = step (is_first (get_or content at 0)) refl
    where
      bytes : List ℕ
      bytes = take (length value) (drop at content)

      size : length bytes ≡ length value
      size = length-take-le (length value) (drop at content) (omega (arith, length-drop at content))

      head : get_or bytes 0 0 ≡ get_or content at 0
      head = first_byte value word host content (omega arith) single (value_bytes 0) content_bytes at

      step : (test : Bool) → is_first (get_or content at 0) ≡ test
          → (window_cost own host content at ≡ 1 + cond test 1 0) × (window_equals value [] word host bytes ≡ false)
      step true e =
          let is = eqb-true (get_or content at 0) (get_or value 0 0) e in
          let small : get_or bytes 1 0 < 256 = rw (second_byte at) (content_bytes (at + 1)) in
          let told = second_differs bytes size small (head ∙ is) (λ next. other is (sym (second_byte at) ∙ next)) in
          (omega (arith, told.0), told.1)
      step false e =
          let small : get_or bytes 0 0 < 256 = rw head (content_bytes at) in
          let told = differs value word host content (omega arith) single (value_bytes 0) content_bytes bytes size small
          (λ is. eqb-false (get_or content at 0) (get_or value 0 0) e (sym head ∙ is)) in
          (omega (arith, told.0), told.1)

  -- the first byte, counted in one place more
  count_next : (at k : ℕ) → at < length content → count_by is_first (take (suc k) (drop at content))
      ≡ cond (is_first (get_or content at 0)) 1 0 + count_by is_first (take k (drop (at + 1) content))
  count_next at k below =
      ap (λ l. count_by is_first (take (suc k) l)) (drop_more content at 0 below)
      ∙ sum_by-cons (λ b. cond (is_first b) 1 0) (get_or content at 0) (take k (drop (at + 1) content))

  -- windows without the pair add one each, and one more where the first byte stands, and change no answer
  passed_over : (at k n left : ℕ) → left ≡ k + n → at + k + length value ≤ length content + 1
      → ((i : ℕ) → i < k → get_or content (at + i) 0 ≡ get_or value 0 0 → get_or content (at + i + 1) 0 ≡ get_or value 1 0 → ⊥)
      → (equals_from own host content at left ≡ equals_from own host content (at + k) n)
      × (compared_from own host content at left
      ≡ k + count_by is_first (take k (drop at content)) + compared_from own host content (at + k) n)
  passed_over at zero n left is inside others =
      let place : at ≡ at + 0 = omega arith in
      let same : left ≡ n = omega arith in
      (ap₂ (equals_from own host content) place same, omega (arith, ap₂ (compared_from own host content) place same))
  passed_over at (suc k) n left is inside others =
      let place : at + 0 ≡ at = omega arith in
      let after : at + 0 + 1 ≡ at + 1 = omega arith in
      let next : at + 1 + k ≡ at + suc k = omega arith in
      let told = one_window at (omega arith) (λ e f. others 0 (omega arith) (ap (λ (j : ℕ). get_or content j 0) place ∙ e)
      (ap (λ (j : ℕ). get_or content j 0) after ∙ f)) in
      let rest = passed_over (at + 1) k n (k + n) refl (omega arith) (λ i below e f.
      let later : at + suc i ≡ at + 1 + i = omega arith in
      let more : at + suc i + 1 ≡ at + 1 + i + 1 = omega arith in
      others (suc i) (omega arith) (ap (λ (j : ℕ). get_or content j 0) later ∙ e) (ap (λ (j : ℕ). get_or content j 0) more ∙ f)) in
      let passed = compared_from-passed own host content at (k + n) left (omega arith) (omega arith) told.1 in
      let later : compared_from own host content (at + 1 + k) n ≡ compared_from own host content (at + suc k) n =
      ap (λ (j : ℕ). compared_from own host content j n) next in (
        equals_from-passed own host content at (k + n) left (omega arith) told.1 ∙ rest.0
            ∙ ap (λ (j : ℕ). equals_from own host content j n) next,
        omega (arith, passed, told.0, rest.1, later, count_next at k (omega arith)),
      )

  -- so do those that a search skipped
  pub pairs_passed : (at end passed firsts : ℕ) → at ≤ end → end + length value ≤ length content + 1 → passed ≤ end - at
      → PassesPairs (get_or value 0 0) (get_or value 1 0) (drop at content) passed firsts
      → (equals_from own host content at (end - at) ≡ equals_from own host content (at + passed) (end - (at + passed)))
      × (compared_from own host content at (end - at)
      ≡ passed + firsts + compared_from own host content (at + passed) (end - (at + passed)))
  pairs_passed at end passed firsts order inside limit passes =
      let told = passed_over at passed (end - (at + passed)) (end - at) (omega arith) (omega arith)
      (λ i below e f.
      let next : at + (i + 1) ≡ at + i + 1 = omega arith in
      passes.none i below (get_or-drop at content i 0 ∙ e)
      (get_or-drop at content (i + 1) 0 ∙ ap (λ (j : ℕ). get_or content j 0) next ∙ f)) in
      (told.0, omega (arith, told.1, passes.counted))
