-- A text that is cut can be ended: what is appended makes it whole or gives it a fault that stays.
use Rattle.std.proofs.Common.{◌≡◌, ℕ, ◌+◌, List, [], ◌∷◌, ◌++◌, length, Result, Ok, Err, refl, sym, ap, ◌∙◌, append_assoc, inl, inr}
use Rattle.std.proofs.lemmas.List.{append-nil}
use Rattle.mime_text.specs.declared.magic.fault.Fault.{Fault}
use Rattle.mime_text.specs.declared.magic.fault.MagicFault.TheVariants.{Malformed}
use Rattle.mime_text.specs.declared.magic.fault.MagicFaultKind.TheVariants.{Truncated, BadSection}
use Rattle.mime_text.specs.Magic.Entries.{PlainFlatSection}
use Rattle.mime_text.specs.Magic.Reading.{fault_at, head_of, header}
use Rattle.mime_text.specs.Magic.Text.{BeginsMarker, IsSection}
use Rattle.mime_text.specs.Magic.FaultTable.{IsBeforeLine, IsSectionHead, IsCutHead, HasFault, CanEnd}
use Rattle.mime_text.proofs.MagicLemmas.HeadFound.{head_row_found, regroup_head}
use Rattle.mime_text.proofs.MagicLemmas.SectionsOnly.{head_row_only}
use Rattle.mime_text.proofs.FaultLemmas.FaultSteps.{section_final}
use Rattle.mime_text.proofs.FaultLemmas.FaultStarts.{StartsLine, line_starts}
use Rattle.mime_text.proofs.FaultLemmas.FaultText.{in_line}
use Rattle.mime_text.proofs.FaultLemmas.FaultLinesStay.{longer}
use Rattle.mime_text.proofs.FaultLemmas.FaultsStay.{marker_stays}
use Rattle.mime_text.proofs.FaultLemmas.FaultsWhole.{sections_append, whole_lines}
use Rattle.mime_text.proofs.FaultLemmas.FaultsGoOn.{marker_whole}
use Rattle.mime_text.proofs.FaultLemmas.FaultEnds.{LineEnds}
use Rattle.mime_text.proofs.FaultLemmas.FaultCuts.{cut_ends}

-- bytes that end the last line end the text, unless they make a marker
line_settles : (text before line : List ℕ) (limit : ℕ) → text ≡ before ++ line → IsBeforeLine limit before → StartsLine line
    → (BeginsMarker line → ⊥) → LineEnds limit line → CanEnd text
line_settles text before line limit is b starts never (more, ends) =
    let whole : text ++ more ≡ before ++ (line ++ more) = longer text before line more is in
    elim (marker_stays text before line more limit is b starts never) [
      | inl none ↦ elim ends [
        | inl l ↦ (
          more,
          inl (whole_lines limit (text ++ more) before (line ++ more) (l.0 ∷ []) b
              (line ++ more, [], sym (append-nil (line ++ more)), inr (none, l.1), refl) whole),
        )
        | inr f ↦ (
          more,
          inr (
            Malformed f.0 (length before + f.1),
            in_line (text ++ more) before (line ++ more) limit f.0 f.1 whole b none f.2,
            f.3,
          ),
        )
      ]
      | inr m ↦ (m.more, inl (marker_whole text m))
    ]

-- a newline ends a head
head_settles : (text : List ℕ) → IsCutHead text → CanEnd text
head_settles text c = go (head_of wrong c.row) refl
  where
    wrong : Fault
    wrong = fault_at BadSection 0

    whole : text ++ 10 ∷ [] ≡ c.before ++ (91 ∷ (c.row ++ 10 ∷ []))
    whole = longer text c.before (91 ∷ c.row) (10 ∷ []) c.whole

    go : (r : Result (ℕ × List ℕ) Fault) → head_of wrong c.row ≡ r → CanEnd text
    go (Ok x) e =
        let h = head_row_found wrong c.row x e in
        let w = c.before_are in
        let last : List ℕ = 91 ∷ (h.text ++ (58 ∷ (x.1 ++ (93 ∷ 10 ∷ [])))) in
        let section : PlainFlatSection = record { priority = x.0; kind = x.1; entries = [] } in
        let is : IsSection last section =
        record { priority = h.text; lines = []; whole = refl; priority_is = h.priority_is; kind_is = h.kind_is; lines_are = refl } in
        let head : c.row ++ 10 ∷ [] ≡ h.text ++ (58 ∷ (x.1 ++ (93 ∷ 10 ∷ []))) =
        ap (λ (t : List ℕ). t ++ 10 ∷ []) h.parts ∙ regroup_head h.text x.1 [] in
        let all : text ++ 10 ∷ [] ≡ header ++ (w.sections ++ last) =
        whole ∙ ap (λ (t : List ℕ). c.before ++ 91 ∷ t) head ∙ ap (λ (t : List ℕ). t ++ last) w.whole
        ∙ append_assoc header w.sections last in
        (10 ∷ [], inl (w.parts ++ section ∷ [], inr (w.sections ++ last, all, sections_append w.sections last w.parts section w.are is)))
    go (Err f) e =
        let never : IsSectionHead c.row → ⊥ =
        λ (digits, n, kind, is, number, name). let good = ap (head_of wrong) is ∙ head_row_only wrong digits n kind number name in cc in (
          10 ∷ [],
          inr (
            Malformed BadSection (length c.before),
            inl (record {
              before = c.before;
              row = c.row;
              after = [];
              whole = whole;
              before_are = c.before_are;
              is_row = c.open_ended;
              no_head = never;
              place = refl;
            }),
            section_final,
          ),
        )

-- a text that is cut can be ended
pub cut_settles : (text : List ℕ) (at : ℕ) → HasFault text (Malformed Truncated at) → CanEnd text
cut_settles text at (inl c) = head_settles text c.0
cut_settles text at (inr l) =
    line_settles text l.before l.line l.limit l.whole l.before_is (line_starts l.limit l.line Truncated l.within l.wrong) l.no_marker
    (cut_ends l.limit l.line l.wrong.0)
