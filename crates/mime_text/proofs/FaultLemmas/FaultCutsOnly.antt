-- A line that is cut by the table fails so.
use Rattle.std.proofs.Common.{◌≡◌, ℕ, ◌+◌, ◌*◌, ◌<◌, eqb, ltb, List, [], ◌∷◌, ◌++◌, length, Err, refl, sym, ap, subst, ◌∙◌, append_assoc}
use Rattle.std.proofs.Common.{arith}
use Rattle.std.proofs.lemmas.Bool.{lt-ltb, ne_eqb, cond-true, cond-false}
use Rattle.std.proofs.lemmas.List.{append-nil}
use Rattle.mime_base.specs.Magic.{PlainLine}
use Rattle.mime_text.specs.declared.magic.fault.Fault.{Fault}
use Rattle.mime_text.specs.declared.magic.fault.MagicFaultKind.TheVariants.{Truncated}
use Rattle.mime_text.specs.declared.magic.fault.MagicFaultKind.{MagicFaultKind}
use Rattle.mime_text.specs.Magic.Reading.{fault_at, bytes_at, sized_at, mask_at, word_at, range_at, row_at, body_at, end_at, line_at}
use Rattle.mime_text.specs.Magic.Text.{NoNewline}
use Rattle.mime_text.specs.Magic.FaultTable.{IsToEnd, IsCutLine, in_indent, in_number}
use Rattle.mime_text.specs.Magic.FaultTable.{in_length, in_value, in_mask, before_end, before_newline}
use Rattle.mime_text.proofs.MagicLemmas.LineOnly.{body_only}
use Rattle.mime_text.proofs.FaultLemmas.FaultSteps.{bind_fails, bind_to, Places}
use Rattle.mime_text.proofs.FaultLemmas.FaultNumbers.{number_cut}
use Rattle.mime_text.proofs.FaultLemmas.FaultStarts.{digits_start}
use Rattle.mime_text.proofs.FaultLemmas.FaultIndentsOnly.{front_number}
use Rattle.mime_text.proofs.FaultLemmas.FaultFrontsOnly.{indent_then, start_then, value_then, mask_then, number_then, fail_so, after_body}
use Rattle.mime_text.proofs.FaultLemmas.FaultFrontsOnly.{after_start, after_value}

-- the fault that reading the line gives
pub record LineGives (limit : ℕ) (line : List ℕ) (kind : MagicFaultKind) (at : ℕ) : Type 0 where
  pub fails : Fault
  pub is : line_at limit line ≡ Err fails
  pub places : Places fails (length line) kind at

-- ---- a line that is cut

-- too few bytes
bytes_cut : (n : ℕ) (cut : List ℕ) → length cut < n → bytes_at n cut ≡ Err (fault_at Truncated 0)
unfolding bytes_at
bytes_cut n cut less = cond-true (ltb (length cut) n) _ _ (lt-ltb _ _ less)

-- a length or a value
length_cut : (cut : List ℕ) → length cut < 2 → sized_at cut ≡ Err (fault_at Truncated 0)
unfolding sized_at
length_cut [] short = refl
length_cut (b ∷ []) short = refl
length_cut (b ∷ c ∷ cut) short = absurd (omega (arith, short))

-- a value that the text's end cuts is a cut
value_cut : (high low : ℕ) (cut : List ℕ) → length cut < 256 * high + low → sized_at (high ∷ low ∷ cut) ≡ Err (fault_at Truncated 0)
unfolding sized_at
value_cut high low cut less = bytes_cut (256 * high + low) cut less

-- a mask
mask_cut : (size : ℕ) (cut : List ℕ) → length cut < size → mask_at size (38 ∷ cut) ≡ Err (fault_at Truncated 0)
unfolding mask_at
mask_cut size cut less = bind_fails (bytes_at size cut) _ (fault_at Truncated 0) (bytes_cut size cut less)

-- a row
pub row_cut : (cut : List ℕ) → NoNewline cut → row_at cut ≡ Err (fault_at Truncated 0)
unfolding row_at
row_cut [] none = refl
row_cut (b ∷ cut) none =
    cond-false (eqb b 10) _ _ (ne_eqb b 10 none.0) ∙ bind_fails (row_at cut) _ (fault_at Truncated 0) (row_cut cut none.1)

-- what fails after all parts
pub end_then : (limit : ℕ) (own : PlainLine) (next : ℕ) (line before after : List ℕ) (f : Fault) → line ≡ before ++ next ∷ after
    → IsToEnd limit own next before
    → end_at (length line) own (next ∷ after) ≡ Err f → line_at limit line ≡ Err f
end_then limit own next line before after f is end e =
    let tail : List ℕ = end.body ++ next ∷ after in
    let whole : line ≡ end.before ++ tail =
    is ∙ ap (λ (t : List ℕ). t ++ next ∷ after) end.whole ∙ append_assoc end.before end.body (next ∷ after) in
    ap (line_at limit) whole ∙ indent_then limit end.before end.before_is tail f
    (λ depth. bind_to (body_at tail) (own, next ∷ after) (after_body (length (end.before ++ tail)) depth) (Err f)
    (body_only end.body own next after end.body_is)
    (bind_fails (end_at (length (end.before ++ tail)) own (next ∷ after)) _ f
    (subst (λ (n : ℕ). end_at n own (next ∷ after) ≡ Err f) (ap length whole) e)))

-- a line that is cut
pub cut_line : (limit : ℕ) (line : List ℕ) → IsCutLine limit line → line_at limit line ≡ Err (fault_at Truncated 0)
unfolding end_at word_at range_at
cut_line limit line (in_indent some are) = front_number limit line (fault_at Truncated 0) (digits_start line are some) (number_cut line are)
cut_line limit line (in_number before digits is place are) =
    ap (line_at limit) is ∙ number_then limit before place digits (fault_at Truncated 0) (number_cut digits are)
cut_line limit line (in_length before cut is s short) =
    ap (line_at limit) is ∙ start_then limit before s cut (fault_at Truncated 0)
    (λ size start. fail_so size (fault_at Truncated 0) (after_start start cut)
    (bind_fails (sized_at cut) _ (fault_at Truncated 0) (length_cut cut short)))
cut_line limit line (in_value before high low cut is s less) =
    let tail : List ℕ = high ∷ low ∷ cut in
    ap (line_at limit) is ∙ start_then limit before s tail (fault_at Truncated 0)
    (λ size start. fail_so size (fault_at Truncated 0) (after_start start tail)
    (bind_fails (sized_at tail) _ (fault_at Truncated 0) (value_cut high low cut less)))
cut_line limit line (in_mask size before cut is v less) =
    ap (line_at limit) is ∙ value_then limit size before v (38 ∷ cut) (fault_at Truncated 0)
    (λ bytes start value same. fail_so bytes (fault_at Truncated 0) (after_value start value (38 ∷ cut))
    (bind_fails (mask_at (length value) (38 ∷ cut)) _ (fault_at Truncated 0) (mask_cut (length value) cut (omega (arith, less, same)))))
cut_line limit line (before_end size m) =
    ap (line_at limit) (sym (append-nil line))
    ∙ mask_then limit size line m [] (fault_at Truncated 0) tt (λ bytes start value mask same depth. refl)
cut_line limit line (before_newline before after own next is end other none) =
    end_then limit own next line before after (fault_at Truncated 0) is end
    (cond-false (eqb next 10) _ _ (ne_eqb next 10 other) ∙ bind_fails (row_at after) _ (fault_at Truncated 0) (row_cut after none))
