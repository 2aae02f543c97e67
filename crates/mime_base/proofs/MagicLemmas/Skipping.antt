-- Windows that are skipped, since already their first byte is not the value's.
use Rattle.std.proofs.Common.{◌≡◌, ℕ, zero, suc, ◌+◌, ◌-◌, ◌<◌, ◌≤◌, false, List, [], ◌∷◌, length, get_or, take, drop}
use Rattle.std.proofs.Common.{bit_and, Option, Some, None, refl, sym, ap, ap₂, ◌∙◌, arith, length-drop}
use Rattle.std.specs.Option.{unwrap_or}
use Rattle.memchr.specs.Find.{IsFirstByte, is_byte}
use Rattle.std.proofs.lemmas.Bool.{eq-eqb, ne_eqb}
use Rattle.std.proofs.lemmas.Grind.{and_numeral}
use Rattle.std.proofs.lemmas.List.{get_or-drop, get_or-take, length-take-le}
use Rattle.mime_base.specs.Magic.Holds.{equals_from}
use Rattle.mime_base.specs.Magic.Masking.{equal_bytes, group_of, window_equals}
use Rattle.mime_base.specs.Magic.Mirrored.{mirrored}
use Rattle.mime_base.specs.Magic.Ranges.{compared_from}
use Rattle.mime_base.specs.Magic.{PlainLine, line_from}
use Rattle.mime_base.specs.declared.magic.host.Host.{Host}
use Rattle.mime_base.specs.declared.magic.host.Host.TheVariants.{Little, Big}
use Rattle.mime_base.proofs.MagicLemmas.HoldingLines.{equals_from-none, equals_from-passed}
use Rattle.mime_base.proofs.MagicLemmas.Ranges.{compared_from-none, compared_from-passed, compared_from-room, equals_from-room, window_cost}
use Rattle.mime_base.proofs.MagicLemmas.Windows.{counted, stops}

-- all bits of a byte
pub whole_byte : (b : ℕ) → b < 256 → bit_and b 255 ≡ b
whole_byte b small = let rest = and_numeral b 254 refl in omega arith

-- a search for a byte passes over what is not the byte
pub passed-differs : (first : ℕ) (bytes : List ℕ) (found : Option ℕ) → IsFirstByte (is_byte first) bytes found
    → (unwrap_or found (length bytes) ≤ length bytes)
    × ((i : ℕ) → i < unwrap_or found (length bytes) → get_or bytes i 0 ≡ first → ⊥)
passed-differs first bytes None none = (omega arith, λ i below e. none i (omega arith) below (eq-eqb (get_or bytes i 0) first e))
passed-differs first bytes (Some k) is =
    (omega (arith, is.0.high), λ i below e. is.0.before i (omega arith) below (eq-eqb (get_or bytes i 0) first e))

module _ (value : List ℕ) (word : ℕ) (host : Host) (content : List ℕ) (some : 0 < length value)
    (single : group_of word host (length value) ≡ 1)
    (small_first : get_or value 0 0 < 256) (content_bytes : (i : ℕ) → get_or content i 0 < 256) where
  -- the line, with what is in its value
  abbrev own : PlainLine
  own = line_from 0 0 word value (Some [])

  -- a window of which the first byte is not the value's
  pub differs : (bytes : List ℕ) → length bytes ≡ length value → get_or bytes 0 0 < 256
      → (get_or bytes 0 0 ≡ get_or value 0 0 → ⊥)
      → (equal_bytes value [] word host bytes ≡ 0) × (window_equals value [] word host bytes ≡ false)
  differs bytes same small other =
      let place_is : 0 ≡ mirrored (group_of word host (length value)) 0 = sym (ap (λ (g : ℕ). mirrored g 0) single) in
      let none = stops value [] word host bytes same 0 0 255 (omega arith) place_is refl
      (λ e. other (sym (whole_byte _ small) ∙ e ∙ whole_byte _ small_first)) in
      let told = counted value [] word host bytes same 0 (sym none) in
      (sym told.0, sym told.1 ∙ ne_eqb 0 (length bytes) (λ e. omega arith))

  -- the first byte of a window
  pub first_byte : (at : ℕ) → get_or (take (length value) (drop at content)) 0 0 ≡ get_or content at 0
  first_byte at =
      let place : at + 0 ≡ at = omega arith in
      get_or-take (length value) (drop at content) 0 0 some ∙ get_or-drop at content 0 0
      ∙ ap (λ (k : ℕ). get_or content k 0) place

  -- such windows add one each, and change no answer
  pub passed_over : (at k n left : ℕ) → left ≡ k + n → at + k + length value ≤ length content + 1
      → ((i : ℕ) → i < k → get_or content (at + i) 0 ≡ get_or value 0 0 → ⊥)
      → (equals_from own host content at left ≡ equals_from own host content (at + k) n)
      × (compared_from own host content at left ≡ k + compared_from own host content (at + k) n)
  passed_over at zero n left is inside others =
      let place : at ≡ at + 0 = omega arith in
      let same : left ≡ n = omega arith in
      (ap₂ (equals_from own host content) place same, omega (arith, ap₂ (compared_from own host content) place same))
  passed_over at (suc k) n left is inside others =
      let place : at + 0 ≡ at = omega arith in
      let next : at + 1 + k ≡ at + suc k = omega arith in
      let size = length-take-le (length value) (drop at content) (omega (arith, length-drop at content)) in
      let small : get_or (take (length value) (drop at content)) 0 0 < 256 = rw (first_byte at) (content_bytes at) in
      let told = differs (take (length value) (drop at content)) size small
      (λ e. others 0 (omega arith) (ap (λ (j : ℕ). get_or content j 0) place ∙ sym (first_byte at) ∙ e)) in
      let rest = passed_over (at + 1) k n (k + n) refl (omega arith) (λ i below e.
      let later : at + suc i ≡ at + 1 + i = omega arith in
      others (suc i) (omega arith) (ap (λ (j : ℕ). get_or content j 0) later ∙ e)) in
      let one : window_cost own host content at ≡ 1 = omega (arith, told.0) in
      let passed = compared_from-passed own host content at (k + n) left (omega arith) (omega arith) told.1 in
      let after : compared_from own host content (at + 1 + k) n ≡ compared_from own host content (at + suc k) n =
      ap (λ (j : ℕ). compared_from own host content j n) next in (
        equals_from-passed own host content at (k + n) left (omega arith) told.1 ∙ rest.0
            ∙ ap (λ (j : ℕ). equals_from own host content j n) next,
        omega (arith, passed, one, rest.1, after),
      )

  -- so do those before the first that begins with the first byte of the value
  pub passed_over-before : (at end passed : ℕ) → at ≤ end → end + length value ≤ length content + 1
      → passed ≤ length (take (end - at) (drop at content))
      → ((i : ℕ) → i < passed → get_or (take (end - at) (drop at content)) i 0 ≡ get_or value 0 0 → ⊥)
      → (equals_from own host content at (end - at) ≡ equals_from own host content (at + passed) (end - (at + passed)))
      × (compared_from own host content at (end - at)
      ≡ passed + compared_from own host content (at + passed) (end - (at + passed)))
  passed_over-before at end passed order inside limit differ =
      let size = length-take-le (end - at) (drop at content) (omega (arith, length-drop at content)) in
      passed_over at passed (end - (at + passed)) (end - at) (omega arith) (omega arith)
      (λ i below e. differ i below
      (get_or-take (end - at) (drop at content) i 0 (omega arith) ∙ get_or-drop at content i 0 ∙ e))

  -- one such window
  pub other_byte : (at : ℕ) → at + length value ≤ length content → (get_or content at 0 ≡ get_or value 0 0 → ⊥)
      → (equals_from own host content at 1 ≡ false) × (compared_from own host content at 1 ≡ 1)
  other_byte at inside other =
      let place : at + 0 ≡ at = omega arith in
      let told = passed_over at 1 0 1 refl (omega arith) (λ i below e.
      let first : at + i ≡ at = omega arith in
      other (ap (λ (j : ℕ). get_or content j 0) (sym first) ∙ e)) in
      (told.0 ∙ equals_from-none own host content (at + 1), omega (arith, told.1, compared_from-none own host content (at + 1)))

  -- all windows of a range, of which that many lie in the content
  pub all_differ : (at n range : ℕ) → n ≤ range → (n < range → length content < at + n + length value)
      → at + n + length value ≤ length content + 1
      → ((i : ℕ) → i < n → get_or content (at + i) 0 ≡ get_or value 0 0 → ⊥)
      → (equals_from own host content at range ≡ false) × (compared_from own host content at range ≡ n)
  all_differ at n range few beyond inside others =
      let told = passed_over at n 0 n (omega arith) inside others in (
        equals_from-room own host content at n (range - n) range (omega arith) (λ some. beyond (omega arith))
            ∙ told.0 ∙ equals_from-none own host content (at + n),
        compared_from-room own host content at n (range - n) range (omega arith) (λ some. beyond (omega arith))
            ∙ omega (arith, told.1, compared_from-none own host content (at + n)),
      )

-- a word of one byte reverses nothing
pub word_of_one : (word : ℕ) (host : Host) (size : ℕ) → word ≡ 1 → group_of word host size ≡ 1
word_of_one word Little size one = rw one refl
word_of_one word Big size one = refl

-- a list of no length
pub without_bytes : (bytes : List ℕ) → length bytes ≡ 0 → bytes ≡ []
without_bytes [] none = refl
without_bytes (b ∷ bytes) none = absurd (omega arith)
