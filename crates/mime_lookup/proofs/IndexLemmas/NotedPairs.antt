-- Places of pairs that are noted from the last to the first, and lines that a content refuses by a pair.
use Rattle.std.proofs.Common.{◌≡◌, ℕ, ◌+◌, ◌*◌, ◌<◌, ◌≤◌, inl, inr, List, [], ◌∷◌}
use Rattle.std.proofs.Common.{◌++◌, length, get_or, take, drop, sym, ap, ap₂, ◌∙◌, arith, length-append}
use Rattle.std.proofs.Math.ListN.{get_or-append, set}
use Rattle.std.proofs.Math.Seq.{get_or-append_seam}
use Rattle.std.proofs.lemmas.Bool.{cases_eq, cases_lt}
use Rattle.std.proofs.lemmas.List.{get_or-drop, get_or-set_other, get_or-set_same, get_or-take}
use Rattle.mime_lookup.specs.Heads.{AreBytes, RefusesContent}
use Rattle.mime_lookup.specs.Pairs.{IsPairAt, IsPairOf, LacksNumber, NotesPairs}
use Rattle.mime_lookup.specs.declared.indexed.line_head.LineHead.{LineHead}

-- the number of the pair at a place
abbrev pub number_at : List ℕ → ℕ → ℕ
number_at bytes place = get_or bytes place 0 * 8 + get_or bytes (place + 1) 0

-- one place more, before those that are noted
pub pairs_more : (place number value : ℕ) (places bytes : List ℕ) → value ≤ place → value < 255 → number ≡ number_at bytes place →
    number < length places → NotesPairs (place + 1) places bytes → NotesPairs place (set places number value) bytes
pairs_more place number value places bytes no_later some is known later = record {
  no_later = λ j from front inside. elim (cases_eq (number_at bytes j) number) [
    | inl same ↦ (
        let now = ap (λ (n : ℕ). get_or (set places number value) n 0) same ∙ get_or-set_same places number value 0 known in
        (omega (arith, now, no_later, from), omega (arith, now, some)))
    | inr other ↦ (
        let past : j ≡ place → ⊥ = λ same. other (ap (number_at bytes) same ∙ sym is) in
        let kept = get_or-set_other places number (number_at bytes j) value 0 other in
        let noted = later.no_later j (omega (arith, past, from)) front inside in
        (omega (arith, kept, noted.0), omega (arith, kept, noted.1)))
  ];
}

-- a byte of a part of some bytes
pub slice_byte : (bytes : List ℕ) (from n i place : ℕ) → i < n → from + i ≡ place → get_or (take n (drop from bytes)) i 0 ≡ get_or bytes place 0
slice_byte bytes from n i place below at =
    get_or-take n (drop from bytes) i 0 below ∙ get_or-drop from bytes i 0 ∙ ap (λ k. get_or bytes k 0) at

-- a head refuses a content that lacks its pair
pub lacks_pair : (head : LineHead) (number : ℕ) (content : List ℕ) → AreBytes content → IsPairOf number head →
    LacksNumber number content → RefusesContent head content
lacks_pair head number content bytes is lacks = inr (record {
  known = omega (arith, is.inside);
  bytes = bytes;
  lacks = λ place low high fits shown.
      lacks (place + head.skip) (omega (arith, high, is.front)) (omega (arith, fits, is.inside))
      (ap₂ (λ (third fourth : ℕ). third * 8 + fourth) (shown.third is.inside) (shown.fourth is.inside) ∙ sym is.is);
})

-- one more line with a pair
pub paired_more : (pairs others : List ℕ) (heads : List LineHead) (number : ℕ) → length pairs < length others →
    IsPairAt number heads (get_or others (length pairs) 0) →
    ((i : ℕ) → i < length pairs → IsPairAt (get_or pairs i 0) heads (get_or others i 0)) →
    (i : ℕ) → i < length (pairs ++ number ∷ []) → IsPairAt (get_or (pairs ++ number ∷ []) i 0) heads (get_or others i 0)
paired_more pairs others heads number room is each i below = elim (cases_lt i (length pairs)) [
  | inl before ↦ rw (get_or-append pairs (number ∷ []) 0 i before) (each i before)
  | inr past ↦ (
      let last : i ≡ length pairs = omega (arith, past, below, length-append pairs (number ∷ [])) in
      rw (last, get_or-append_seam pairs number [] 0) is)
]
