-- Heads of lines: a content that a head refuses has no window that equals the line's value, so the line doesn't hold.
use Rattle.std.proofs.Common.{◌≡◌, ℕ, zero, suc, ◌+◌, ◌<◌, ◌≤◌, inl, inr, true, false, List, [], ◌∷◌, ◌++◌, length, get_or}
use Rattle.std.proofs.Common.{bit_and, take, drop, refl, sym, ap, ap₂, ◌∙◌, arith, length-drop, subst}
use Rattle.std.proofs.lemmas.Bool.{cases_lt, false_from_ne_true}
use Rattle.std.proofs.lemmas.List.{get_or-drop, get_or-take, get_or_past, length-take-le}
use Rattle.std.proofs.lemmas.List.Elements.{All-push, All-weaker}
use Rattle.std.proofs.lemmas.Slice.Eq.{bytes_eq-Decides}
use Rattle.mime_base.specs.Magic.Holds.{bytes_of_mask, equals_from}
use Rattle.mime_base.specs.Magic.Masking.{in_host_order, under_mask, window_equals}
use Rattle.mime_base.specs.Magic.Mirrored.{mirrored}
use Rattle.mime_base.specs.Magic.{PlainLine, PlainMatchlet}
use Rattle.mime_base.specs.declared.magic.host.Host.{Host}
use Rattle.mime_base.proofs.MagicLemmas.HoldingLines.{equals_from-none, equals_from-outside, equals_from-passed, line_holds-differs}
use Rattle.mime_base.proofs.MagicLemmas.Masks.{bits, get_or-under_mask, place}
use Rattle.mime_base.proofs.MagicLemmas.Mirroring.{mirrors}
use Rattle.mime_base.proofs.MagicLemmas.Skipping.{whole_byte, word_of_one}
use Rattle.mime_lookup.specs.Heads.{AreBytes, AreLineHeads, AreNoneShorter, IsHead, IsHeadOf, KeepsBytes, ShowsBytes}
use Rattle.mime_lookup.specs.TopLines.{PlainTop}
use Rattle.mime_lookup.specs.declared.indexed.line_head.LineHead.{LineHead}

module _ (value mask : List ℕ) (word : ℕ) (host : Host) (window : List ℕ) (same : length window ≡ length value) (one : word ≡ 1)
    (value_bytes : AreBytes value) (window_bytes : AreBytes window) where
  -- bytes of words of one byte stay in their places
  stays : (i : ℕ) → place value word host i ≡ i
  stays i = ap (λ (g : ℕ). mirrored g i) (word_of_one word host (length value) one)

  -- all bits of a byte that counts
  whole : (i : ℕ) → get_or mask i 255 ≡ 255 → bits value mask word host i ≡ 255
  whole i kept = ap (λ (n : ℕ). get_or mask n 255) (stays i) ∙ kept

  -- a byte of a window that equals a value is the value's, where all its bits count
  pub kept_byte : (i : ℕ) → i < length value → get_or mask i 255 ≡ 255 → window_equals value mask word host window ≡ true →
      get_or window i 0 ≡ get_or value i 0
  unfolding window_equals
  kept_byte i below kept equal =
      let moves = mirrors word host value in
      let alike : under_mask value mask word host window ≡ under_mask value mask word host (in_host_order word host value) =
      (bytes_eq-Decides _ _).0 equal in
      let left : get_or (under_mask value mask word host window) i 0 ≡ get_or window i 0 =
      get_or-under_mask value mask word host window i same below ∙ ap (bit_and (get_or window i 0)) (whole i kept)
      ∙ whole_byte _ (window_bytes i) in
      let moved : get_or (in_host_order word host value) i 0 ≡ get_or value i 0 =
      moves.moved i 0 below ∙ ap (λ (n : ℕ). get_or value n 0) (stays i) in
      let right : get_or (under_mask value mask word host (in_host_order word host value)) i 0 ≡ get_or value i 0 =
      get_or-under_mask value mask word host (in_host_order word host value) i moves.size below
      ∙ ap₂ bit_and moved (whole i kept) ∙ whole_byte _ (value_bytes i) in
      sym left ∙ ap (λ bytes. get_or bytes i 0) alike ∙ right

-- what a head says of a value
pub record HeadsValue (head : LineHead) (value : List ℕ) : Type 0 where
  pub size : head.size ≡ length value
  pub first : head.first ≡ get_or value 0 0
  pub second : 1 < length value → head.second ≡ get_or value 1 0
  pub third : head.skip < length value → head.third ≡ get_or value head.skip 0
  pub fourth : head.skip + 1 < length value → head.fourth ≡ get_or value (head.skip + 1) 0

module _ (own : PlainLine) (host : Host) (content : List ℕ) (head : LineHead) (is : HeadsValue head own.value)
    (kept : KeepsBytes own.mask head.skip) (one : own.word ≡ 1) (some : 0 < length own.value) (value_bytes : AreBytes own.value)
    (content_bytes : AreBytes content) where
  -- the bytes of a head stand in a window that equals the value
  shows : (at : ℕ) → at + length own.value ≤ length content →
      window_equals own.value (bytes_of_mask own.mask) own.word host (take (length own.value) (drop at content)) ≡ true →
      ShowsBytes head content at
  shows at inside equal =
      let window : List ℕ = take (length own.value) (drop at content) in
      let size : length window ≡ length own.value =
      length-take-le (length own.value) (drop at content) (omega (arith, length-drop at content, inside)) in
      let byte : (i : ℕ) → i < length own.value → get_or window i 0 ≡ get_or content (at + i) 0 =
      λ i below. get_or-take (length own.value) (drop at content) i 0 below ∙ get_or-drop at content i 0 in
      let small : AreBytes window = λ i. elim (cases_lt i (length own.value)) [
        | inl below ↦ rw (byte i below) (content_bytes (at + i))
        | inr past ↦ (let e : get_or window i 0 ≡ 0 = get_or_past window i 0 (omega (arith, size, past)) in omega (arith, e))
      ] in
      let shown : (i : ℕ) → i < length own.value → get_or (bytes_of_mask own.mask) i 255 ≡ 255 → get_or content (at + i) 0 ≡ get_or own.value i 0 =
      λ i below whole. sym (byte i below)
      ∙ kept_byte own.value (bytes_of_mask own.mask) own.word host window size one value_bytes small i below whole equal in
      let here : at + 0 ≡ at = omega arith in
      let after : at + (head.skip + 1) ≡ at + head.skip + 1 = omega arith in
      record {
        first = ap (λ (n : ℕ). get_or content n 0) (sym here) ∙ shown 0 some kept.first ∙ sym is.first;
        second = λ longer. (let two : 1 < length own.value = omega (arith, longer, is.size) in shown 1 two kept.second ∙ sym (is.second two));
        third = λ longer. (let inside : head.skip < length own.value = omega (arith, longer, is.size) in
            shown head.skip inside kept.third ∙ sym (is.third inside));
        fourth = λ longer. (let inside : head.skip + 1 < length own.value = omega (arith, longer, is.size) in
            ap (λ (n : ℕ). get_or content n 0) (sym after) ∙ shown (head.skip + 1) inside kept.fourth ∙ sym (is.fourth inside));
      }

  -- no window of a range equals the value where the bytes stand in none of those that lie in the content
  pub none_equals : (range at : ℕ) → ((i : ℕ) → i < range → at + i + length own.value ≤ length content → ShowsBytes head content (at + i) → ⊥) →
      equals_from own host content at range ≡ false
  none_equals zero at lacks = equals_from-none own host content at
  none_equals (suc range) at lacks = elim (cases_lt (length content) (at + length own.value)) [
    | inl beyond ↦ equals_from-outside own host content at (suc range) beyond
    | inr inside ↦ (
        let here : at + 0 ≡ at = omega arith in
        let within : at + 0 + length own.value ≤ length content = omega (arith, inside) in
        let differs : window_equals own.value (bytes_of_mask own.mask) own.word host (take (length own.value) (drop at content)) ≡ true → ⊥ =
        λ equal. lacks 0 (omega arith) within (subst (ShowsBytes head content) (sym here) (shows at (omega (arith, inside)) equal)) in
        equals_from-passed own host content at range (suc range) (omega arith) (false_from_ne_true _ differs)
        ∙ none_equals range (at + 1) (λ i below fits shown.
        let later : at + 1 + i ≡ at + (i + 1) = omega arith in
        lacks (i + 1) (omega (arith, below)) (omega (arith, fits)) (subst (ShowsBytes head content) later shown)))
  ]

-- a head of what a line seeks is a head of the line
pub head_of_line : (head : LineHead) (m : PlainMatchlet) → IsHead head m.own → IsHeadOf head m
head_of_line head m is = record {
  refuses = λ content host refuses. line_holds-differs content host m (is.refuses content host refuses);
  within = is.within;
}

-- a head more, and a line
pub line_heads-more : (heads : List LineHead) (tops : List PlainTop) (head : LineHead) (top : PlainTop) → AreLineHeads heads tops →
    IsHeadOf head top.line → AreLineHeads (heads ++ head ∷ []) (tops ++ top ∷ [])
line_heads-more [] [] head top are is = (is, tt)
line_heads-more [] (_ ∷ _) head top are is = absurd are
line_heads-more (_ ∷ _) [] head top are is = absurd are
line_heads-more (h ∷ heads) (t ∷ tops) head top are is = (are.0, line_heads-more heads tops head top are.1 is)

-- there are as many heads as lines
pub line_heads-length : (heads : List LineHead) (tops : List PlainTop) → AreLineHeads heads tops → length heads ≡ length tops
line_heads-length [] [] are = refl
line_heads-length [] (_ ∷ _) are = absurd are
line_heads-length (_ ∷ _) [] are = absurd are
line_heads-length (h ∷ heads) (t ∷ tops) are = ap suc (line_heads-length heads tops are.1)

-- a head more, of which `least` bytes are no more than it says
pub none_shorter-more : (heads : List LineHead) (head : LineHead) (shortest least : ℕ) → least ≤ shortest → least ≤ head.start + head.size →
    AreNoneShorter shortest heads → AreNoneShorter least (heads ++ head ∷ [])
none_shorter-more heads head shortest least less here are =
    All-push (λ (h : LineHead). least ≤ h.start + h.size) heads head
    (All-weaker (λ (h : LineHead). shortest ≤ h.start + h.size) (λ (h : LineHead). least ≤ h.start + h.size)
    (λ h more. omega (arith, less, more)) heads are) here
