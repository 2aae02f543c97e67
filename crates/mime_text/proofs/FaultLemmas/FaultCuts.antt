-- A line that is cut can be ended.
use Rattle.std.proofs.Common.{◌≡◌, ℕ, ◌+◌, ◌≤◌, List, [], ◌∷◌, ◌++◌, length, refl, sym, ap, subst, ◌∙◌, append_assoc, arith, inl, inr, ◌⊎◌}
use Rattle.std.proofs.lemmas.Bool.{cases_lt, cases_Bool, eqb-false}
use Rattle.mime_base.specs.Magic.{fits_word}
use Rattle.mime_text.specs.declared.magic.fault.MagicFaultKind.TheVariants.{BadNumber, BadWord, BadIndent}
use Rattle.mime_text.specs.Magic.Text.{value_of, AreDigits, IsNumber}
use Rattle.mime_text.specs.Magic.FaultTable.{IsToMask, IsToWord, IsBeforeNumber, before_start}
use Rattle.mime_text.specs.Magic.FaultTable.{before_word, before_range, IsCutLine, in_indent}
use Rattle.mime_text.specs.Magic.FaultTable.{in_number, in_length, in_value, in_mask, before_end, before_newline, large_indent, bad_number}
use Rattle.mime_text.specs.Magic.FaultTable.{no_equals, no_mark}
use Rattle.mime_text.proofs.FaultLemmas.FaultSteps.{number_final, word_final, indent_final}
use Rattle.mime_text.proofs.FaultLemmas.FaultLinesStay.{longer}
use Rattle.mime_text.proofs.FaultLemmas.FaultEnds.{IsSettled, LineEnds, faulty, ignored_line, range_ends, mask_ends}
use Rattle.mime_text.proofs.FaultLemmas.FaultFills.{value_fills, length_fills, mask_fills}

-- digits are a number, or none, or too large
judge : (digits : List ℕ) → AreDigits digits → IsNumber digits (value_of 0 digits) ⊎ ((digits ≡ []) ⊎ (4294967296 ≤ value_of 0 digits))
judge [] are = inr (inl refl)
judge (b ∷ digits) are = elim (cases_lt (value_of 0 (b ∷ digits)) 4294967296) [
  | inl low ↦ inl (record { digits = are; some = omega arith; value = refl; small = low })
  | inr large ↦ inr (inr large)
]

-- a bad number ends the line
bad_ends : (limit : ℕ) (line before digits : List ℕ) → line ≡ before ++ digits → IsBeforeNumber limit before → AreDigits digits
    → (digits ≡ []) ⊎ (4294967296 ≤ value_of 0 digits) → LineEnds limit line
bad_ends limit line before digits is place are bad = faulty limit line (120 ∷ []) BadNumber (length before)
    (bad_number before (digits ++ 120 ∷ []) (longer line before digits (120 ∷ []) is) place
    (record { digits = digits; next = 120; ended = record { after = []; whole = refl; ends = refl }; digits_are = are; bad = bad }) refl)
    number_final

-- a word is judged, or a range after it
word_ends : (limit size : ℕ) (line before digits : List ℕ) → line ≡ before ++ 126 ∷ digits → IsToMask limit size before
    → IsNumber digits (value_of 0 digits) → LineEnds limit line
word_ends limit size line before digits is m num = elim (cases_Bool (fits_word (value_of 0 digits) size)) [
  | inl fits ↦
      let front : List ℕ = before ++ 126 ∷ digits in
      let w : IsToWord limit size front =
      record {
        before = before;
        word = 126 ∷ digits;
        n = value_of 0 digits;
        whole = refl;
        before_is = m;
        word_is = (refl, num);
        fits = fits;
      } in
      let whole : line ++ (43 ∷ 120 ∷ []) ≡ (front ++ 43 ∷ []) ++ 120 ∷ [] =
      ap (λ (t : List ℕ). t ++ (43 ∷ 120 ∷ [])) is ∙ sym (append_assoc front (43 ∷ []) (120 ∷ [])) in
      faulty limit line (43 ∷ 120 ∷ []) BadNumber (length (front ++ 43 ∷ []))
      (bad_number (front ++ 43 ∷ []) (120 ∷ []) whole (before_range size front refl w)
      (record {
        digits = [];
        next = 120;
        ended = record { after = []; whole = refl; ends = refl };
        digits_are = tt;
        bad = inl refl;
      }) refl) number_final
  | inr misfit ↦ faulty limit line (120 ∷ []) BadWord (length before + 1) (record {
    size = size;
    before = before;
    rest = digits ++ 120 ∷ [];
    word = digits;
    n = value_of 0 digits;
    next = 120;
    whole = longer line before (126 ∷ digits) (120 ∷ []) is;
    before_is = m;
    word_is = num;
    ended = record { after = []; whole = refl; ends = refl };
    misfit = misfit;
    place = refl;
  }) word_final
]

-- a number where one has to stand
number_ends : (limit : ℕ) (line before digits : List ℕ) → line ≡ before ++ digits → IsBeforeNumber limit before → AreDigits digits
    → IsNumber digits (value_of 0 digits) → LineEnds limit line
number_ends limit line before digits is (before_start i) are num = faulty limit line (120 ∷ []) BadNumber (length before)
    (no_equals before (digits ++ 120 ∷ []) digits (value_of 0 digits) 120 (longer line before digits (120 ∷ []) is) i num
    (record { after = []; whole = refl; ends = refl }) (eqb-false 120 61 refl) refl) number_final
number_ends limit line before digits is (before_word size b at m) are num =
    word_ends limit size line b digits (is ∙ ap (λ (t : List ℕ). t ++ digits) at ∙ append_assoc b (126 ∷ []) digits) m num
number_ends limit line before digits is (before_range size b at w) are num =
    let whole : line ≡ b ++ 43 ∷ digits = is ∙ ap (λ (t : List ℕ). t ++ digits) at ∙ append_assoc b (43 ∷ []) digits in
    subst (λ (t : List ℕ). LineEnds limit t) (sym whole) (range_ends limit size b (43 ∷ digits) (value_of 0 digits) w (refl, num))

-- any line that is cut
pub cut_ends : (limit : ℕ) (line : List ℕ) → IsCutLine limit line → LineEnds limit line
cut_ends limit line (in_indent some are) = elim (judge line are) [
  | inl num ↦
      faulty limit line (120 ∷ []) BadIndent 0
      (no_mark line (value_of 0 line) 120 num (record { after = []; whole = refl; ends = refl }) (eqb-false 120 62 refl) refl) indent_final
  | inr bad ↦ elim bad [
    | inl none ↦ absurd (omega (arith, some, ap length none))
    | inr large ↦
        faulty limit line (120 ∷ []) BadNumber 0
        (large_indent line 120 (record { after = []; whole = refl; ends = refl }) are large refl) number_final
  ]
]
cut_ends limit line (in_number before digits is place are) = elim (judge digits are) [
  | inl num ↦ number_ends limit line before digits is place are num
  | inr bad ↦ bad_ends limit line before digits is place are bad
]
cut_ends limit line (in_length before cut is s short) = length_fills limit line before cut is s short
cut_ends limit line (in_value before high low cut is s less) = value_fills limit line before high low cut is s (omega (arith, less))
cut_ends limit line (in_mask size before cut is v less) = mask_fills limit size line before cut is v less
cut_ends limit line (before_end size m) = mask_ends limit size line m
cut_ends limit line (before_newline before after own next is e other none) = (
  10 ∷ [],
  subst (λ (t : List ℕ). IsSettled limit t) (sym (longer line before (next ∷ after) (10 ∷ []) is))
      (ignored_line limit own next before after e other none),
)
