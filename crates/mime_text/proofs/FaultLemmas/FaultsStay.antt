-- A fault that is not of a cut or a missing header stays where bytes are appended, or the text ends inside a marker.
use Rattle.std.proofs.Common.{◌≡◌, ℕ, List, ◌∷◌, ◌++◌, Option, Some, None, refl, ap, subst, ◌∙◌, append_assoc, inl, inr, ◌⊎◌}
use Rattle.mime_text.specs.declared.magic.fault.MagicFault.{MagicFault}
use Rattle.mime_text.specs.declared.magic.fault.MagicFault.TheVariants.{Malformed, OutOfMemory}
use Rattle.mime_text.specs.declared.magic.fault.MagicFaultKind.{MagicFaultKind}
use Rattle.mime_text.specs.declared.magic.fault.MagicFaultKind.TheVariants.{NoHeader, Truncated, BadSection, BadNumber, BadWord, BadIndent}
use Rattle.mime_text.specs.declared.magic.fault.MagicFaultKind.TheVariants.{TooDeep}
use Rattle.mime_text.specs.Magic.Reading.{marker_at}
use Rattle.mime_text.specs.Magic.Text.{IsMarker, BeginsMarker}
use Rattle.mime_text.specs.Magic.FaultTable.{IsBeforeLine, InLine, HasFault, IsFinal, EndsInMarker}
use Rattle.mime_text.proofs.MagicLemmas.EntryFound.{marker_found}
use Rattle.mime_text.proofs.FaultLemmas.FaultKinds.{LineFault}
use Rattle.mime_text.proofs.FaultLemmas.FaultStarts.{StartsLine, line_starts}
use Rattle.mime_text.proofs.FaultLemmas.FaultSections.{begins_read}
use Rattle.mime_text.proofs.FaultLemmas.FaultSectionsOnly.{starts_some}
use Rattle.mime_text.proofs.FaultLemmas.FaultLinesStay.{divided, longer, misnumbered_stays, misworded_stays, indented_stays}
use Rattle.mime_text.proofs.FaultLemmas.FaultLinesStay.{misindented_stays}

-- no marker begins where none did, or the text ends inside one
pub marker_stays : (text before line more : List ℕ) (limit : ℕ) → text ≡ before ++ line → IsBeforeLine limit before → StartsLine line
    → (BeginsMarker line → ⊥) → (BeginsMarker (line ++ more) → ⊥) ⊎ EndsInMarker text
marker_stays text before line more limit is b starts never = go (marker_at (line ++ more)) refl
  where
    go : (o : Option (List ℕ)) → marker_at (line ++ more) ≡ o → (BeginsMarker (line ++ more) → ⊥) ⊎ EndsInMarker text
    go None e = inl (λ begins. let r = begins_read (line ++ more) begins in let some = r.1 in absurd cc)
    go (Some rest) e =
        let m = marker_found (line ++ more) rest e in
        elim (divided line more m.0 rest m.1) [
          | inl h ↦ absurd (never (m.0, h.0, m.3, h.1))
          | inr h ↦
              inr (record {
                limit = limit;
                before = before;
                line = line;
                more = h.0;
                whole = is;
                before_is = b;
                begun = starts_some line starts;
                cut = h.2;
                marker_is = subst IsMarker h.1 m.3;
              })
        ]

-- a line that is wrong stays so
in_line_stays : (kind : MagicFaultKind) (text more : List ℕ) (at : ℕ)
    → ((limit : ℕ) (line : List ℕ) (n : ℕ) → LineFault kind limit line n → LineFault kind limit (line ++ more) n)
    → InLine (LineFault kind) text at → InLine (LineFault kind) (text ++ more) at ⊎ EndsInMarker text
in_line_stays kind text more at stays is =
    let starts : StartsLine is.line = line_starts is.limit is.line kind is.within is.wrong in
    elim (marker_stays text is.before is.line more is.limit is.whole is.before_is starts is.no_marker) [
      | inl none ↦
          inl (record {
            limit = is.limit;
            before = is.before;
            line = is.line ++ more;
            within = is.within;
            whole = longer text is.before is.line more is.whole;
            before_is = is.before_is;
            no_marker = none;
            wrong = stays is.limit is.line is.within is.wrong;
            place = is.place;
          })
      | inr ends ↦ inr ends
    ]

-- such a fault stays
pub fault_stays : (text more : List ℕ) (fault : MagicFault) → HasFault text fault → IsFinal fault
    → HasFault (text ++ more) fault ⊎ EndsInMarker text
fault_stays text more (Malformed NoHeader at) is final = absurd (final.0 refl)
fault_stays text more (Malformed Truncated at) is final = absurd (final.1 refl)
fault_stays text more (Malformed BadSection at) (inl m) final = inl (inl (record {
  before = m.before;
  row = m.row;
  after = m.after ++ more;
  whole = longer text m.before (91 ∷ (m.row ++ 10 ∷ m.after)) more m.whole
      ∙ ap (λ (t : List ℕ). m.before ++ 91 ∷ t) (append_assoc m.row (10 ∷ m.after) more);
  before_are = m.before_are;
  is_row = m.is_row;
  no_head = m.no_head;
  place = m.place;
}))
fault_stays text more (Malformed BadSection at) (inr m) final = inl (inr (record {
  before = m.before;
  first = m.first;
  after = m.after ++ more;
  whole = longer text m.before (m.first ∷ m.after) more m.whole;
  before_are = m.before_are;
  no_head = m.no_head;
  no_line = m.no_line;
  place = m.place;
}))
fault_stays text more (Malformed BadNumber at) is final =
    in_line_stays BadNumber text more at (λ limit line n w. misnumbered_stays limit line more n w) is
fault_stays text more (Malformed BadWord at) is final =
    in_line_stays BadWord text more at (λ limit line n w. misworded_stays limit line more n w) is
fault_stays text more (Malformed BadIndent at) is final =
    in_line_stays BadIndent text more at (λ limit line n w. misindented_stays limit line more n w) is
fault_stays text more (Malformed TooDeep at) is final =
    in_line_stays TooDeep text more at (λ limit line n w. (indented_stays 64 line more w.0, w.1, w.2)) is
fault_stays text more OutOfMemory is final = absurd final
