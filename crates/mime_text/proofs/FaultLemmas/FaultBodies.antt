-- The parts of a line after its `>` that fail have that fault by the table.
use Rattle.std.proofs.Common.{◌≡◌, ℕ, ◌+◌, List, [], ◌∷◌, ◌++◌, length, length-append, Err, refl, sym, ap, subst, ◌∙◌, arith, inl, inr}
use Rattle.mime_text.specs.declared.magic.fault.Fault.{Fault}
use Rattle.mime_text.specs.declared.magic.fault.MagicFaultKind.TheVariants.{BadNumber, BadWord}
use Rattle.mime_text.specs.Magic.Reading.{number_at, start_at, sized_at, mask_at, word_at, range_at, body_at}
use Rattle.mime_text.specs.Magic.FaultTable.{IsToIndent, IsToStart, IsToValue, IsToMask, IsToWord, IsBeforeNumber, before_start}
use Rattle.mime_text.specs.Magic.FaultTable.{before_word, before_range, in_number, in_length, in_value, in_mask, bad_number, no_equals}
use Rattle.mime_text.proofs.FaultLemmas.FaultSteps.{bind_err, places_behind}
use Rattle.mime_text.proofs.FaultLemmas.FaultKinds.{LineFails, cut}
use Rattle.mime_text.proofs.FaultLemmas.FaultNumbers.{number_fails}
use Rattle.mime_text.proofs.FaultLemmas.FaultMarks.{start_fails}
use Rattle.mime_text.proofs.FaultLemmas.FaultOptions.{value_fails, mask_fails, word_fails, range_fails}
use Rattle.mime_text.proofs.FaultLemmas.FaultFronts.{grown, grow_start, grow_value, grow_mask, grow_word}

-- a number that fails where one has to stand
at_number : (limit : ℕ) (line before rest : List ℕ) (f : Fault) → line ≡ before ++ rest → IsBeforeNumber limit before
    → number_at rest ≡ Err f → LineFails limit line f
at_number limit line before rest f is place e =
    elim (number_fails rest f e) [
      | inl h ↦ cut limit line f h.0 (in_number before rest is place h.1)
      | inr h ↦
          subst (λ (g : Fault). LineFails limit line g) (sym h.0)
          (record {
            kind = BadNumber;
            at = length before;
            is = bad_number before rest is place h.1 refl;
            places = places_behind BadNumber before rest line (length before) is refl;
          })
    ]

-- a range that fails
from_range : (limit size : ℕ) (line before tail : List ℕ) (f : Fault) → line ≡ before ++ tail → IsToWord limit size before
    → range_at tail ≡ Err f → LineFails limit line f
from_range limit size line before tail f is w e =
    let r = range_fails tail f e in
    at_number limit line (before ++ 43 ∷ []) r.0 f (grown line before tail (43 ∷ []) r.0 is r.1) (before_range size before refl w) r.2

-- a word that fails
from_word : (limit size : ℕ) (line before tail : List ℕ) (f : Fault) → line ≡ before ++ tail → IsToMask limit size before
    → word_at size tail ≡ Err f → LineFails limit line f
from_word limit size line before tail f is m e =
    let r = word_fails size tail f e in
    let whole : line ≡ (before ++ 126 ∷ []) ++ r.0 = grown line before tail (126 ∷ []) r.0 is r.1 in
    elim r.2 [
      | inl h ↦ at_number limit line (before ++ 126 ∷ []) r.0 f whole (before_word size before refl m) h
      | inr h ↦ subst (λ (g : Fault). LineFails limit line g) h.0 (record {
        kind = BadWord;
        at = length before + 1;
        is = record {
          size = size;
          before = before;
          rest = r.0;
          word = h.1.word;
          n = h.1.n;
          next = h.1.next;
          whole = is
              ∙ ap (λ (t : List ℕ). before ++ t) r.1;
          before_is = m;
          word_is = h.1.is;
          ended = h.1.ended;
          misfit = h.1.misfit;
          place = refl;
        };
        places = places_behind BadWord (before ++ 126 ∷ []) r.0 line (length before + 1) whole
            (omega (arith, length-append before (126 ∷ [])));
      })
    ]

-- a mask that fails
from_mask : (limit size : ℕ) (line before tail : List ℕ) (f : Fault) → line ≡ before ++ tail → IsToValue limit size before
    → mask_at size tail ≡ Err f → LineFails limit line f
from_mask limit size line before tail f is v e =
    let m = mask_fails size tail f e in
    cut limit line f m.0 (in_mask size before m.1 (is ∙ ap (λ (t : List ℕ). before ++ t) m.2) v m.3)

-- a value that fails
from_value : (limit : ℕ) (line before tail : List ℕ) (f : Fault) → line ≡ before ++ tail → IsToStart limit before
    → sized_at tail ≡ Err f → LineFails limit line f
from_value limit line before tail f is s e =
    let v = value_fails tail f e in
    elim v.1 [
      | inl short ↦ cut limit line f v.0 (in_length before tail is s short)
      | inr h ↦ cut limit line f v.0 (in_value before h.0 h.1 h.2 (is ∙ ap (λ (t : List ℕ). before ++ t) h.3) s h.4)
    ]

-- a start that fails
from_start : (limit : ℕ) (line before tail : List ℕ) (f : Fault) → line ≡ before ++ tail → IsToIndent limit before
    → start_at tail ≡ Err f → LineFails limit line f
from_start limit line before tail f is i e =
    elim (start_fails tail f e) [
      | inl h ↦ at_number limit line before tail f is (before_start i) h
      | inr h ↦
          subst (λ (g : Fault). LineFails limit line g) h.0
          (record {
            kind = BadNumber;
            at = length before;
            is = no_equals before tail h.1.text h.1.n h.1.next is i h.1.is h.1.ended h.1.other refl;
            places = places_behind BadNumber before tail line (length before) is refl;
          })
    ]

-- parts that fail
pub body_fails : (limit : ℕ) (line before tail : List ℕ) (f : Fault) → line ≡ before ++ tail → IsToIndent limit before
    → body_at tail ≡ Err f → LineFails limit line f
unfolding body_at
body_fails limit line before tail f is i e =
    elim (bind_err (start_at tail) _ f e) [
      | inl h ↦ from_start limit line before tail f is i h
      | inr a ↦
          let start = grow_start limit line before tail a.0 is i a.1 in
          elim (bind_err (sized_at a.0.1) _ f a.2) [
            | inl h ↦ from_value limit line start.0 a.0.1 f start.1 start.2 h
            | inr b ↦
                let value = grow_value limit line start.0 a.0.1 b.0 start.1 start.2 b.1 in
                elim (bind_err (mask_at (length b.0.0) b.0.1) _ f b.2) [
                  | inl h ↦ from_mask limit (length b.0.0) line value.0 b.0.1 f value.1 value.2 h
                  | inr c ↦
                      let mask = grow_mask limit (length b.0.0) line value.0 b.0.1 c.0 value.1 value.2 c.1 in
                      elim (bind_err (word_at (length b.0.0) c.0.1) _ f c.2) [
                        | inl h ↦ from_word limit (length b.0.0) line mask.0 c.0.1 f mask.1 mask.2 h
                        | inr d ↦
                            let word = grow_word limit (length b.0.0) line mask.0 c.0.1 d.0 mask.1 mask.2 d.1 in
                            elim (bind_err (range_at d.0.1) _ f d.2) [
                              | inl h ↦ from_range limit (length b.0.0) line word.0 d.0.1 f word.1 word.2 h
                              | inr g ↦ let no = g.2 in absurd cc
                            ]
                      ]
                ]
          ]
    ]
