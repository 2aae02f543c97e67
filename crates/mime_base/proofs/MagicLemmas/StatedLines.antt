-- The value of a line as its record in a cache states it, and the windows of its range.
use Rattle.std.proofs.Common.{◌≡◌, ℕ, ◌+◌, ◌-◌, ◌<◌, ◌≤◌, ◌==◌, ◌&&◌, ◌||◌, Bool, true, false, cond, true≢false}
use Rattle.std.proofs.Common.{List, [], length, drop, refl, sym, ap, ◌∙◌, arith, length-drop}
use Rattle.std.specs.Prelude.{nat_le}
use Rattle.std.proofs.lemmas.Bool.{eqb-true, leb-true}
use Rattle.std.proofs.lemmas.List.{length-take-le}
use Rattle.mime_base.specs.Cache.Bytes.{both_lie, lies, optional_mask, value_at}
use Rattle.mime_base.specs.Magic.Holds.{equals_from}
use Rattle.mime_base.specs.Magic.Ranges.{compared_from, compared_stated, stated_line}
use Rattle.mime_base.specs.Magic.{PlainLine}
use Rattle.mime_base.specs.declared.cache.stated_value.StatedValue.{StatedValue}
use Rattle.mime_base.specs.declared.magic.host.Host.{Host}
use Rattle.mime_base.proofs.MagicLemmas.HoldingLines.{equals_from-found, equals_from-none, window}
use Rattle.mime_base.proofs.MagicLemmas.Ranges.{compared_from-found, compared_from-none, compared_from-room, equals_from-room}
use Rattle.mime_base.proofs.MagicLemmas.Windows.{nothing_equals}

-- the first of two tests that both pass
both_left : (a b : Bool) → (a && b) ≡ true → a ≡ true
both_left true b all = refl
both_left false b all = absurd (true≢false (sym all))

-- bytes that are inside the cache are as many as were asked for
pub length-inside : (c bytes : List ℕ) (at size : ℕ) → at + size ≤ length c → bytes ≡ value_at c at size → length bytes ≡ size
length-inside c bytes at size inside is =
    ap length is ∙ length-take-le size (drop at c) (omega (arith, length-drop at c))

-- so are those that lie in it
length-lying : (c : List ℕ) (at size : ℕ) → lies c at size ≡ true → length (value_at c at size) ≡ size
length-lying c at size lie = by_size (size == 0) refl lie
  where
    by_size : (none : Bool) → (size == 0) ≡ none → (none || nat_le (at + size) (length c)) ≡ true
        → length (value_at c at size) ≡ size
    by_size true e lie = let zero : size ≡ 0 = eqb-true size 0 e in rw zero refl
    by_size false e lie =
        let inside : at + size ≤ length c = leb-true (at + size) (length c) lie in
        length-inside c (value_at c at size) at size inside refl

-- so is the value, where it lies there with its mask
pub length-value : (c : List ℕ) (at mask size : ℕ) → both_lie c at mask size ≡ true → length (value_at c at size) ≡ size
length-value c at mask size lie = length-lying c at size (both_left (lies c at size) (mask == 0 || lies c mask size) lie)

-- at the offset 0 there is no mask
pub without_mask : (c : List ℕ) (mask size : ℕ) → mask ≡ 0 → optional_mask c mask size ≡ []
without_mask c mask size none = rw none refl

module _ (c : List ℕ) (value : StatedValue) (start range : ℕ) (host : Host) (content : List ℕ) where
  -- the line that is stated
  abbrev own : PlainLine
  own = stated_line c value start range

  -- no window of the range lies wholly in the content
  pub none_inside : both_lie c value.at value.mask_at value.size ≡ true → (0 < range → length content < start + value.size)
      → (false ≡ equals_from own host content start range) × (compared_from own host content start range ≡ 0)
  none_inside lie beyond =
      let size = length-value c value.at value.mask_at value.size lie in (
        sym (equals_from-room own host content start 0 range range (omega arith) (λ some. omega (arith, size, beyond some))
            ∙ equals_from-none own host content start),
        compared_from-room own host content start 0 range range (omega arith) (λ some. omega (arith, size, beyond some))
            ∙ compared_from-none own host content start,
      )

  -- a value of no bytes equals the first window, of no bytes
  pub empty_equals : both_lie c value.at value.mask_at value.size ≡ true → value.size ≡ 0 → 0 < range → start ≤ length content
      → (true ≡ equals_from own host content start range) × (compared_from own host content start range ≡ 0)
  empty_equals lie none some within =
      let size : length own.value ≡ 0 = length-value c value.at value.mask_at value.size lie ∙ none in
      let no_window : length (window own host content start) ≡ 0 =
      length-take-le (length own.value) (drop start content) (omega arith) ∙ size in
      let equal = nothing_equals own.value (optional_mask c value.mask_at value.size) own.word host
      (window own host content start) size no_window in
      let found = compared_from-found own host content start (range - 1) range (omega arith) (omega arith) (sym equal) in (
        sym (equals_from-found own host content start (range - 1) range (omega arith) (omega arith) (sym equal)),
        omega (arith, found, size),
      )

  -- nothing is compared of the value, where nothing would be if it lay there
  pub compared_stated-none : (both_lie c value.at value.mask_at value.size ≡ true → compared_from own host content start range ≡ 0) →
      compared_stated c value start range host content ≡ 0
  compared_stated-none none = by_lying (both_lie c value.at value.mask_at value.size) refl
    where
      by_lying : (lie : Bool) → both_lie c value.at value.mask_at value.size ≡ lie →
          cond lie (compared_from own host content start range) 0 ≡ 0
      by_lying true e = none e
      by_lying false e = refl
