-- What ends a line: bytes that make it an ignored line, or a fault that stays.
use Rattle.std.proofs.Common.{◌≡◌, ℕ, false, List, [], ◌∷◌, ◌++◌, refl, sym, ap, subst, ◌∙◌, append_assoc, inl, inr, ◌⊎◌}
use Rattle.std.specs.Prelude.{◌≢◌}
use Rattle.std.proofs.lemmas.Bool.{eqb-false}
use Rattle.std.proofs.lemmas.List.{append-nil}
use Rattle.mime_base.specs.Magic.{PlainLine, fits_word}
use Rattle.mime_text.specs.declared.magic.fault.MagicFault.TheVariants.{Malformed}
use Rattle.mime_text.specs.declared.magic.fault.MagicFaultKind.{MagicFaultKind}
use Rattle.mime_text.specs.Magic.Entries.{ignored, PlainEntry}
use Rattle.mime_text.specs.Magic.Text.{IsOptional, IsMask, goes_on, NoNewline, IsLine}
use Rattle.mime_text.specs.Magic.FaultTable.{IsToMask, IsToWord, IsToEnd, IsFinal}
use Rattle.mime_text.proofs.FaultLemmas.FaultKinds.{LineFault}

-- this is a whole line, or has a fault that stays
abbrev pub IsSettled : ℕ → List ℕ → Type 0
IsSettled limit line =
    ((item : PlainEntry) × IsLine limit line item)
    ⊎ ((kind : MagicFaultKind) × (at : ℕ) × LineFault kind limit line at × IsFinal (Malformed kind at))

-- bytes that end the line
abbrev pub LineEnds : ℕ → List ℕ → Type 0
LineEnds limit line = (more : List ℕ) × IsSettled limit (line ++ more)

-- a fault that stays ends it
pub faulty : (limit : ℕ) (line more : List ℕ) (kind : MagicFaultKind) (at : ℕ) → LineFault kind limit (line ++ more) at
    → IsFinal (Malformed kind at) → LineEnds limit line
faulty limit line more kind at is final = (more, inr (kind, at, is, final))

-- what ends a longer line ends it
pub extended : (limit : ℕ) (line pad whole : List ℕ) → line ++ pad ≡ whole → LineEnds limit whole → LineEnds limit line
extended limit line pad whole is (more, ends) =
    (pad ++ more, subst (λ (t : List ℕ). IsSettled limit t) (ap (λ (t : List ℕ). t ++ more) (sym is) ∙ append_assoc line pad more) ends)

-- ---- ignored lines

-- after its parts, a line may be ignored
pub ignored_line : (limit : ℕ) (own : PlainLine) (next : ℕ) (before after : List ℕ) → IsToEnd limit own next before → next ≢ 10
    → NoNewline after → IsSettled limit (before ++ next ∷ (after ++ 10 ∷ []))
ignored_line limit own next before after e other none =
    let i = e.before_is in
    let tail : List ℕ = next ∷ (after ++ 10 ∷ []) in
    let whole : before ++ tail ≡ i.indent ++ 62 ∷ (e.body ++ tail) =
    ap (λ (t : List ℕ). t ++ tail) e.whole ∙ append_assoc e.before e.body tail ∙ ap (λ (t : List ℕ). t ++ (e.body ++ tail)) i.whole
    ∙ append_assoc i.indent (62 ∷ []) (e.body ++ tail) in
    inl (
      record { indent = i.depth; role = ignored },
      record {
        indent = i.indent;
        rest = e.body ++ tail;
        whole = whole;
        indent_is = i.indent_is;
        allowed = i.allowed;
        shallow = i.shallow;
        rest_is = record {
          body = e.body;
          own = own;
          first = next;
          end = after ++ 10 ∷ [];
          whole = refl;
          body_is = e.body_is;
          end_is = (other, (after, refl, none));
        };
      },
    )

-- an `x` goes on with no part
x_ends : (mask word range : List ℕ) → goes_on mask word range 120 ≡ false
x_ends mask word (r ∷ range) = refl
x_ends mask (w ∷ word) [] = refl
x_ends (m ∷ mask) [] [] = refl
x_ends [] [] [] = refl

-- all parts before a front's end
regroup : (a s v m w r : List ℕ) (high low : ℕ)
    → ((((a ++ (s ++ 61 ∷ [])) ++ (high ∷ low ∷ v)) ++ m) ++ w) ++ r ≡ a ++ (s ++ (61 ∷ high ∷ low ∷ (v ++ (m ++ (w ++ r)))))
regroup a s v m w r high low = simp append_assoc

-- a word and a range, or none, are all parts where an `x` comes next
to_end : (limit size : ℕ) (front range : List ℕ) (k : ℕ) → IsToWord limit size front → IsOptional 43 range k
    → (own : PlainLine) × IsToEnd limit own 120 (front ++ range)
to_end limit size front range k w is =
    let m = w.before_is in
    let v = m.before_is in
    let s = v.before_is in
    let options : List ℕ = m.mask ++ (w.word ++ range) in
    let parts : front ≡ (((s.before ++ (s.start ++ 61 ∷ [])) ++ (v.high ∷ v.low ∷ v.value)) ++ m.mask) ++ w.word =
    w.whole ∙ ap (λ (t : List ℕ). t ++ w.word)
    (m.whole ∙ ap (λ (t : List ℕ). t ++ m.mask) (v.whole ∙ ap (λ (t : List ℕ). t ++ (v.high ∷ v.low ∷ v.value)) s.whole)) in (
      record { start = s.n; range = k; word = w.n; value = v.value; mask = m.bytes },
      record {
        before = s.before;
        body = s.start ++ (61 ∷ v.high ∷ v.low ∷ (v.value ++ options));
        whole = ap (λ (t : List ℕ). t ++ range) parts ∙ regroup s.before s.start v.value m.mask w.word range v.high v.low;
        before_is = s.before_is;
        body_is = record {
          start = s.start;
          high = v.high;
          low = v.low;
          options = options;
          whole = refl;
          start_is = s.start_is;
          size = v.size_is ∙ sym v.length_is;
          options_are = record {
            mask = m.mask;
            word = w.word;
            range = range;
            whole = refl;
            mask_is = subst (λ (n : ℕ). IsMask n m.mask m.bytes) (sym v.size_is) m.mask_is;
            word_is = w.word_is;
            word_fits = ap (λ (n : ℕ). fits_word w.n n) v.size_is ∙ w.fits;
            range_is = is;
            ends = x_ends m.mask w.word range;
          };
        };
      },
    )

-- so `x` and a newline end a line after its word or range
pub range_ends : (limit size : ℕ) (front range : List ℕ) (k : ℕ) → IsToWord limit size front → IsOptional 43 range k
    → LineEnds limit (front ++ range)
range_ends limit size front range k w is =
    let e =
    to_end limit size front range k w is in (120 ∷ 10 ∷ [], ignored_line limit e.0 120 (front ++ range) [] e.1 (eqb-false 120 10 refl) tt)

-- and after its mask
pub mask_ends : (limit size : ℕ) (front : List ℕ) → IsToMask limit size front → LineEnds limit front
mask_ends limit size front m =
    let w : IsToWord limit size front =
    record { before = front; word = []; n = 1; whole = sym (append-nil front); before_is = m; word_is = refl; fits = refl } in
    subst (λ (t : List ℕ). LineEnds limit t) (append-nil front) (range_ends limit size front [] 1 w refl)
