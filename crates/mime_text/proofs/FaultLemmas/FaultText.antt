-- A text that fails has that fault by the table.
use Rattle.std.proofs.Common.{◌≡◌, ℕ, ◌+◌, List, [], ◌∷◌, ◌++◌, length, length-append, Option, Some, None, Result, Ok, Err, refl, sym, ap}
use Rattle.std.proofs.Common.{subst, ◌∙◌, append_assoc, arith, inl, inr, ◌⊎◌}
use Rattle.mime_text.specs.declared.magic.fault.Fault.{Fault}
use Rattle.mime_text.specs.declared.magic.fault.MagicFault.TheVariants.{Malformed}
use Rattle.mime_text.specs.declared.magic.fault.MagicFaultKind.{MagicFaultKind}
use Rattle.mime_text.specs.declared.magic.fault.MagicFaultKind.TheVariants.{NoHeader, Truncated, BadSection, BadNumber, BadWord, BadIndent}
use Rattle.mime_text.specs.declared.magic.fault.MagicFaultKind.TheVariants.{TooDeep}
use Rattle.mime_text.specs.declared.magic.fault.MagicFault.{MagicFault}
use Rattle.mime_text.specs.Magic.Entries.{PlainFlatSection}
use Rattle.mime_text.specs.Magic.Reading.{fault_at, after_prefix, header, below_header, whole, placed, fault_in, magic_fault}
use Rattle.mime_text.specs.Magic.Text.{BeginsMarker}
use Rattle.mime_text.specs.Magic.FaultTable.{AreWhole, limit_after, IsBeforeLine, InLine, HasFault}
use Rattle.mime_text.proofs.MagicLemmas.Prefixes.{after_prefix_only, after_prefix_found}
use Rattle.mime_text.proofs.MagicLemmas.SectionsFound.{EndsLines}
use Rattle.mime_text.proofs.FaultLemmas.FaultSteps.{fault_is}
use Rattle.mime_text.proofs.FaultLemmas.FaultKinds.{LineFault}
use Rattle.mime_text.proofs.FaultLemmas.FaultSections.{HeadFails, head_cut, head_wrong, head_none}
use Rattle.mime_text.proofs.FaultLemmas.FaultBelow.{below_fails, BelowFails, fails_head, fails_line}

-- ---- the text

-- a fault of a line is the text's
line_fault : (kind : MagicFaultKind) (text : List ℕ) (at : ℕ) → InLine (LineFault kind) text at → HasFault text (Malformed kind at)
line_fault NoHeader text at l = absurd l.wrong
line_fault Truncated text at l = inr l
line_fault BadSection text at l = absurd l.wrong
line_fault BadNumber text at l = l
line_fault BadWord text at l = l
line_fault BadIndent text at l = l
line_fault TooDeep text at l = l

-- so far after the line's first byte
pub in_line : (text before line : List ℕ) (limit : ℕ) (kind : MagicFaultKind) (at : ℕ) → text ≡ before ++ line
    → IsBeforeLine limit before → (BeginsMarker line → ⊥) → LineFault kind limit line at
    → HasFault text (Malformed kind (length before + at))
in_line text before line limit kind at is b never wrong =
    line_fault kind text (length before + at)
    (record {
      limit = limit;
      before = before;
      line = line;
      within = at;
      whole = is;
      before_is = b;
      no_marker = never;
      wrong = wrong;
      place = refl;
    })

-- a head's fault is the text's
in_head : (text before tail : List ℕ) (f : Fault) → text ≡ before ++ tail → AreWhole before → HeadFails tail f
    → (before ≡ header) ⊎ EndsLines tail → HasFault text (placed (length text) f)
in_head text before tail f is are (head_cut row bracket none e) no_line =
    subst (λ (g : Fault). HasFault text (placed (length text) g)) (sym e)
    (inl (
      record {
        before = before;
        row = row;
        whole = is
            ∙ ap (λ (t : List ℕ). before ++ t) bracket;
        before_are = are;
        open_ended = none;
      },
      omega arith,
    ))
in_head text before tail f is are (head_wrong row after bracket none no_head e) no_line =
    subst (λ (g : Fault). HasFault text (placed (length text) g)) (sym e) (inl (record {
      before = before;
      row = row;
      after = after;
      whole = is ∙ ap (λ (t : List ℕ). before ++ t) bracket;
      before_are = are;
      is_row = none;
      no_head = no_head;
      place = omega (arith, ap length is, length-append before tail);
    }))
in_head text before tail f is are (head_none first after at other e) no_line =
    subst (λ (g : Fault). HasFault text (placed (length text) g)) (sym e) (inr (record {
      before = before;
      first = first;
      after = after;
      whole = is ∙ ap (λ (t : List ℕ). before ++ t) at;
      before_are = are;
      no_head = other;
      no_line = elim no_line [ inl h ↦ inl h | inr h ↦ inr (subst EndsLines at h) ];
      place = omega (arith, ap length is, length-append before tail);
    }))

-- a fault below the header is the text's
below : (text rest : List ℕ) (f : Fault) → text ≡ header ++ rest → BelowFails rest f → HasFault text (placed (length text) f)
below text rest f whole (fails_head sections tail parts is are h no_line) =
    in_head text (header ++ sections) tail f (whole ∙ ap (λ (t : List ℕ). header ++ t) is)
    (record { sections = sections; parts = parts; whole = refl; are = are }) h
    (elim no_line [ inl none ↦ inl (ap (λ (t : List ℕ). header ++ t) none) | inr other ↦ inr other ])
below text rest f whole (fails_line sections last line parts section is are l never h) =
    let before : List ℕ = (header ++ sections) ++ last in
    let all : text ≡ before ++ line = whole ∙ ap (λ (t : List ℕ). header ++ t) (is ∙ sym (append_assoc sections last line)) in
    let place : IsBeforeLine (limit_after 0 section.entries) before =
    record {
      before = header ++ sections;
      last = last;
      section = section;
      whole = refl;
      before_are = record { sections = sections; parts = parts; whole = refl; are = are };
      last_is = l;
      limit_is = refl;
    } in
    let same : placed (length text) f ≡ Malformed h.kind (length before + h.at) =
    ap (λ (n : ℕ). placed n f) (ap length all ∙ length-append before line) ∙ h.places.at (length before) in
    subst (λ (k : MagicFault). HasFault text k) (sym same)
    (in_line text before line (limit_after 0 section.entries) h.kind h.at all place never h.is)

-- a text that fails
text_fails : (text : List ℕ) (f : Fault) → whole text ≡ Err f → HasFault text (placed (length text) f)
unfolding whole
text_fails [] f e = absurd cc
text_fails (b ∷ bytes) f e = go (after_prefix header (b ∷ bytes)) refl e
  where
    go : (o : Option (List ℕ)) → after_prefix header (b ∷ bytes) ≡ o → below_header (length (b ∷ bytes)) o ≡ Err f
        → HasFault (b ∷ bytes) (placed (length (b ∷ bytes)) f)
    go None is h =
        subst (λ (g : Fault). HasFault (b ∷ bytes) (placed (length (b ∷ bytes)) g)) (fault_is (fault_at NoHeader (length (b ∷ bytes))) f h)
        (λ no. cc, λ rest at. let found = ap (after_prefix header) at ∙ after_prefix_only header rest in cc, omega arith)
    go (Some rest) is h =
        below (b ∷ bytes) rest f (after_prefix_found header (b ∷ bytes) rest is) (below_fails (length rest) rest f (omega arith) h)

-- a text's fault is its fault by the table
pub fault_found : (text : List ℕ) (fault : MagicFault) → magic_fault text ≡ Some fault → HasFault text fault
unfolding magic_fault
fault_found text fault e = go (whole text) refl e
  where
    go : (r : Result (List PlainFlatSection) Fault) → whole text ≡ r → fault_in (length text) r ≡ Some fault → HasFault text fault
    go (Ok parts) is h = absurd cc
    go (Err f) is h =
        let same : placed (length text) f ≡ fault = cc in subst (λ (k : MagicFault). HasFault text k) same (text_fails text f is)
