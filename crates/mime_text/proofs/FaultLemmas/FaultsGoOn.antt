-- Which texts with a fault can go on: those that are cut, and those that end inside the header or a marker.
use Rattle.std.proofs.Common.{◌≡◌, ℕ, List, [], ◌∷◌, ◌++◌, length, length-append, Option, Some, None, refl, sym, ap, subst, ◌∙◌}
use Rattle.std.proofs.Common.{append_assoc, arith, inl, inr}
use Rattle.std.proofs.lemmas.List.{append-nil}
use Rattle.mime_text.specs.declared.magic.fault.MagicFault.{MagicFault}
use Rattle.mime_text.specs.declared.magic.fault.MagicFault.TheVariants.{Malformed, OutOfMemory}
use Rattle.mime_text.specs.declared.magic.fault.MagicFaultKind.TheVariants.{NoHeader, Truncated, BadSection, BadNumber, BadWord, BadIndent}
use Rattle.mime_text.specs.declared.magic.fault.MagicFaultKind.TheVariants.{TooDeep}
use Rattle.mime_text.specs.Magic.Entries.{marker, PlainEntry, PlainFlatSection}
use Rattle.mime_text.specs.Magic.Reading.{after_prefix, header}
use Rattle.mime_text.specs.Magic.Text.{MagicText}
use Rattle.mime_text.specs.Magic.FaultTable.{HasFault, IsFinal, EndsInMarker, EndsInHeader, CanGoOn, IsOpen}
use Rattle.mime_text.proofs.MagicLemmas.Prefixes.{after_prefix_only, after_prefix_found}
use Rattle.mime_text.proofs.MagicLemmas.Laws.{spells_or_fails, no_fault}
use Rattle.mime_text.proofs.FaultLemmas.FaultSteps.{section_final, number_final, word_final, indent_final, deep_final}
use Rattle.mime_text.proofs.FaultLemmas.FaultText.{fault_found}
use Rattle.mime_text.proofs.FaultLemmas.FaultTextOnly.{fault_only}
use Rattle.mime_text.proofs.FaultLemmas.FaultLinesStay.{divided}
use Rattle.mime_text.proofs.FaultLemmas.FaultsStay.{fault_stays}
use Rattle.mime_text.proofs.FaultLemmas.FaultsWhole.{whole_lines}

-- ---- what can go on

-- the offset of a cut is the length of the text
truncated_at : (text : List ℕ) (at : ℕ) → HasFault text (Malformed Truncated at) → at ≡ length text
truncated_at text at (inl is) = is.1
truncated_at text at (inr is) = omega (arith, is.place, is.wrong.1, ap length is.whole, length-append is.before is.line)

-- a cut text has another fault with one byte more, or none
cut_goes_on : (text : List ℕ) → CanGoOn text (Malformed Truncated (length text))
cut_goes_on text = elim (spells_or_fails (text ++ 0 ∷ [])) [
  | inl is ↦ (0 ∷ [], inl is)
  | inr is ↦
      let other : HasFault (text ++ 0 ∷ []) is.0 = fault_found (text ++ 0 ∷ []) is.0 is.1 in (
        0 ∷ [],
        inr (
          is.0,
          other,
          λ same. absurd (omega (
            arith,
            truncated_at (text ++ 0 ∷ []) (length text)
                (subst (λ (f : MagicFault). HasFault (text ++ 0 ∷ []) f) same other),
            length-append text (0 ∷ []),
          )),
        ),
      )
]

-- what ends inside the header can be the header alone
header_goes_on : (text : List ℕ) (fault : MagicFault) → EndsInHeader text → CanGoOn text fault
header_goes_on text fault (more, is) = (more, inl ([], inr ([], sym is ∙ sym (append-nil header), refl)))

-- what ends inside a marker can be the marker
pub marker_whole : (text : List ℕ) (e : EndsInMarker text) → (parts : List PlainFlatSection) × MagicText (text ++ e.more) parts
marker_whole text e =
    let line : List ℕ = e.line ++ e.more in
    let item : PlainEntry = record { indent = 0; role = marker } in
    let is : text ++ e.more ≡ e.before ++ line = ap (λ (t : List ℕ). t ++ e.more) e.whole ∙ append_assoc e.before e.line e.more in
    whole_lines e.limit (text ++ e.more) e.before line (item ∷ []) e.before_is
    (line, [], sym (append-nil line), inl (e.marker_is, refl), refl) is

-- these can go on
pub open_goes_on : (text : List ℕ) (fault : MagicFault) → IsOpen text fault → CanGoOn text fault
open_goes_on text fault (inl cut) = subst (λ (f : MagicFault). CanGoOn text f) (sym cut) (cut_goes_on text)
open_goes_on text fault (inr (inl ends)) = header_goes_on text fault ends
open_goes_on text fault (inr (inr ends)) = (ends.more, inl (marker_whole text ends))

-- ---- what cannot

-- a text has one fault
one_fault : (text : List ℕ) (f g : MagicFault) → HasFault text f → HasFault text g → f ≡ g
one_fault text f g is_f is_g = let a = fault_only text f is_f in let b = fault_only text g is_g in cc

-- and no fault where it is whole
whole_or_fault : (text : List ℕ) (parts : List PlainFlatSection) (f : MagicFault) → MagicText text parts → HasFault text f → ⊥
whole_or_fault text parts f is has = let a = no_fault text parts is in let b = fault_only text f has in absurd cc

-- where a fault stays, the text can't go on
stays_so : (text : List ℕ) (fault : MagicFault) (C : Type 0) → (can : CanGoOn text fault) → HasFault (text ++ can.0) fault → C
stays_so text fault C (more, inl is) has = absurd (whole_or_fault (text ++ more) is.0 fault is.1 has)
stays_so text fault C (more, inr is) has = absurd (is.2 (one_fault (text ++ more) is.0 fault is.1 has))

-- a front of no bytes
none_front : (text more : List ℕ) → text ++ more ≡ [] → text ≡ []
none_front [] more e = refl
none_front (b ∷ text) more e = absurd cc

-- a text without a header can go on only inside the header
no_header_open : (text : List ℕ) (at : ℕ) → HasFault text (Malformed NoHeader at) → CanGoOn text (Malformed NoHeader at)
    → IsOpen text (Malformed NoHeader at)
no_header_open text at has can = go (after_prefix header (text ++ can.0)) refl
  where
    go : (o : Option (List ℕ)) → after_prefix header (text ++ can.0) ≡ o → IsOpen text (Malformed NoHeader at)
    go (Some rest) e = elim (divided text can.0 header rest (after_prefix_found header (text ++ can.0) rest e)) [
      | inl h ↦ absurd (has.1 h.0 h.1)
      | inr h ↦ inr (inl (h.0, h.1))
    ]
    go None e =
        let still : HasFault (text ++ can.0) (Malformed NoHeader at) = (
          λ none. has.0 (none_front text can.0 none),
          λ rest is. let found = ap (after_prefix header) is
              ∙ after_prefix_only header rest in cc,
          has.2,
        ) in
        stays_so text (Malformed NoHeader at) (IsOpen text (Malformed NoHeader at)) can still

-- another fault lets a text go on only inside a marker
final_open : (text : List ℕ) (fault : MagicFault) → IsFinal fault → HasFault text fault → CanGoOn text fault → IsOpen text fault
final_open text fault final has can = elim (fault_stays text can.0 fault has final) [
  | inl still ↦ stays_so text fault (IsOpen text fault) can still
  | inr ends ↦ inr (inr ends)
]

-- what can go on is one of these
pub goes_on_open : (text : List ℕ) (fault : MagicFault) → HasFault text fault → CanGoOn text fault → IsOpen text fault
goes_on_open text (Malformed NoHeader at) has can = no_header_open text at has can
goes_on_open text (Malformed Truncated at) has can = inl (ap (λ (n : ℕ). Malformed Truncated n) (truncated_at text at has))
goes_on_open text (Malformed BadSection at) has can = final_open text (Malformed BadSection at) section_final has can
goes_on_open text (Malformed BadNumber at) has can = final_open text (Malformed BadNumber at) number_final has can
goes_on_open text (Malformed BadWord at) has can = final_open text (Malformed BadWord at) word_final has can
goes_on_open text (Malformed BadIndent at) has can = final_open text (Malformed BadIndent at) indent_final has can
goes_on_open text (Malformed TooDeep at) has can = final_open text (Malformed TooDeep at) deep_final has can
goes_on_open text OutOfMemory has can = absurd has
