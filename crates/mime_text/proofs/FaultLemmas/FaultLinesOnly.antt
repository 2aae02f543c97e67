-- A line that has a fault by the table fails so.
use Rattle.std.proofs.Common.{◌≡◌, ℕ, ◌+◌, false, eqb, leb, List, [], ◌∷◌, ◌++◌, length, length-append, Err, refl, sym, ap, ◌∙◌}
use Rattle.std.proofs.Common.{append_assoc, arith, inr}
use Rattle.std.specs.Prelude.{◌≢◌}
use Rattle.std.proofs.lemmas.Bool.{le-leb, ne_eqb, cond-true, cond-false}
use Rattle.mime_base.specs.Magic.{fits_word}
use Rattle.mime_text.specs.declared.magic.fault.Fault.{Fault}
use Rattle.mime_text.specs.declared.magic.fault.MagicFaultKind.TheVariants.{NoHeader, Truncated, BadSection, BadNumber, BadWord, BadIndent}
use Rattle.mime_text.specs.declared.magic.fault.MagicFaultKind.TheVariants.{TooDeep}
use Rattle.mime_text.specs.declared.magic.fault.MagicFaultKind.{MagicFaultKind}
use Rattle.mime_text.specs.Magic.Reading.{fault_at, number_at, byte_at, start_at, word_at, body_at, end_at, line_at}
use Rattle.mime_text.specs.Magic.Text.{IsNumber}
use Rattle.mime_text.specs.Magic.FaultTable.{IsEnded, IsMisnumbered, large_indent, bad_number, no_equals, large_sum, IsMisworded}
use Rattle.mime_text.specs.Magic.FaultTable.{IsMisindented, no_mark, too_far}
use Rattle.mime_text.proofs.FaultLemmas.FaultSteps.{bind_fails, bind_to, places_end, places_behind, places_first}
use Rattle.mime_text.proofs.FaultLemmas.FaultNumbers.{number_bad, number_ended}
use Rattle.mime_text.proofs.FaultLemmas.FaultKinds.{LineFault}
use Rattle.mime_text.proofs.FaultLemmas.FaultStarts.{ended_starts, large_some}
use Rattle.mime_text.proofs.FaultLemmas.FaultIndentsOnly.{front_number, front_unmarked, front_far, front_deep}
use Rattle.mime_text.proofs.FaultLemmas.FaultFrontsOnly.{indent_then, mask_then, number_then, fail_so, after_mask}
use Rattle.mime_text.proofs.FaultLemmas.FaultCutsOnly.{LineGives, end_then, cut_line}

-- ---- a line that is wrong

-- a start with another byte after it than `=`
start_unmarked : (rest start : List ℕ) (n next : ℕ) → IsNumber start n → IsEnded start next rest → next ≢ 61
    → body_at rest ≡ Err (fault_at BadNumber (length rest))
unfolding body_at start_at byte_at
start_unmarked rest start n next is ended other =
    let wrong : Fault = fault_at BadNumber (length rest) in
    bind_fails (start_at rest) _ wrong
    (bind_to (number_at rest) (n, next ∷ ended.after) _ (Err wrong) (number_ended rest start n next is ended)
    (bind_fails (byte_at 61 wrong (next ∷ ended.after)) _ wrong (cond-false (eqb next 61) _ _ (ne_eqb next 61 other))))

-- a number that is wrong
misnumbered : (limit : ℕ) (line : List ℕ) (at : ℕ) → IsMisnumbered limit line at → LineGives limit line BadNumber at
unfolding end_at
misnumbered limit line at (large_indent indent next ended are large e) = record {
  fails = fault_at BadNumber (length line);
  is = front_number limit line _ (ended_starts indent line next are (large_some indent large) ended)
      (number_bad line (record { digits = indent; next = next; ended = ended; digits_are = are; bad = inr large }));
  places = places_first BadNumber line at e;
}
misnumbered limit line at (bad_number before rest is place bad e) = record {
  fails = fault_at BadNumber (length rest);
  is = ap (line_at limit) is ∙ number_then limit before place rest (fault_at BadNumber (length rest)) (number_bad rest bad);
  places = places_behind BadNumber before rest line at is e;
}
misnumbered limit line at (no_equals before rest start n next is i num ended other e) = record {
  fails = fault_at BadNumber (length rest);
  is = ap (line_at limit) is ∙ indent_then limit before i rest (fault_at BadNumber (length rest))
      (fail_so (length (before ++ rest)) (fault_at BadNumber (length rest)) (body_at rest)
      (start_unmarked rest start n next num ended other));
  places = places_behind BadNumber before rest line at is e;
}
misnumbered limit line at (large_sum before after own is end large e) = record {
  fails = fault_at BadNumber (length line);
  is = end_then limit own 10 line before after (fault_at BadNumber (length line)) is end
      (cond-true (leb 4294967296 (own.start + own.range + length own.value)) _ _ (le-leb _ _ large));
  places = places_first BadNumber line at e;
}

-- a word that ends and doesn't fit
word_misfit : (size : ℕ) (rest word : List ℕ) (n next : ℕ) → IsNumber word n → IsEnded word next rest → fits_word n size ≡ false
    → word_at size (126 ∷ rest) ≡ Err (fault_at BadWord (length rest))
unfolding word_at
word_misfit size rest word n next is ended misfit =
    bind_to (number_at rest) (n, next ∷ ended.after) _ (Err (fault_at BadWord (length rest))) (number_ended rest word n next is ended)
    (cond-false (fits_word n size) _ _ misfit)

-- a word that is wrong
misworded : (limit : ℕ) (line : List ℕ) (at : ℕ) → IsMisworded limit line at → LineGives limit line BadWord at
misworded limit line at w =
    let f : Fault = fault_at BadWord (length w.rest) in
    let whole : line ≡ (w.before ++ 126 ∷ []) ++ w.rest = w.whole ∙ sym (append_assoc w.before (126 ∷ []) w.rest) in
    record {
      fails = f;
      is =
          ap (line_at limit) w.whole ∙ mask_then limit w.size w.before w.before_is (126 ∷ w.rest) f refl
          (λ bytes start value mask same. fail_so bytes f (after_mask start value mask (126 ∷ w.rest))
          (bind_fails (word_at (length value) (126 ∷ w.rest)) _ f
          (ap (λ (n : ℕ). word_at n (126 ∷ w.rest)) same ∙ word_misfit w.size w.rest w.word w.n w.next w.word_is w.ended w.misfit)));
      places = places_behind BadWord (w.before ++ 126 ∷ []) w.rest line at whole
          (omega (arith, w.place, length-append w.before (126 ∷ [])));
    }

-- an indent that is wrong
misindented : (limit : ℕ) (line : List ℕ) (at : ℕ) → IsMisindented limit line at → LineGives limit line BadIndent at
misindented limit line at (no_mark indent n next num ended other e) = record {
  fails = fault_at BadIndent (length line);
  is = front_unmarked limit line indent n next (ended_starts indent line next num.digits num.some ended) num ended other;
  places = places_first BadIndent line at e;
}
misindented limit line at (too_far depth i far e) = record {
  fails = fault_at BadIndent (length line);
  is = front_far limit depth line i far;
  places = places_first BadIndent line at e;
}

-- any fault of a line
pub line_gives : (limit : ℕ) (line : List ℕ) (kind : MagicFaultKind) (at : ℕ) → LineFault kind limit line at → LineGives limit line kind at
line_gives limit line NoHeader at is = absurd is
line_gives limit line Truncated at is =
    record {
      fails = fault_at Truncated 0;
      is = cut_line limit line is.0;
      places = places_end line at is.1;
    }
line_gives limit line BadSection at is = absurd is
line_gives limit line BadNumber at is = misnumbered limit line at is
line_gives limit line BadWord at is = misworded limit line at is
line_gives limit line BadIndent at is = misindented limit line at is
line_gives limit line TooDeep at is =
    record {
      fails = fault_at TooDeep (length line);
      is = front_deep limit line is.0 is.1;
      places = places_first TooDeep line at is.2;
    }
