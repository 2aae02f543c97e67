-- Lines, heads and sections that fail: what is whole before, and what is wrong.
use Rattle.std.proofs.Common.{◌≡◌, ℕ, zero, suc, ◌+◌, ◌≤◌, eqb, List, [], ◌∷◌, ◌++◌, length, Option, Some, None, Result, Ok, Err, refl, sym}
use Rattle.std.proofs.Common.{ap, ◌∙◌, append_assoc, arith, inl, inr}
use Rattle.std.specs.Prelude.{◌≢◌}
use Rattle.std.proofs.lemmas.Bool.{eqb-true, eqb-false}
use Rattle.mime_text.specs.declared.magic.fault.Fault.{Fault}
use Rattle.mime_text.specs.declared.magic.fault.MagicFaultKind.TheVariants.{Truncated, BadSection}
use Rattle.mime_text.specs.Magic.Entries.{PlainEntry}
use Rattle.mime_text.specs.Magic.Reading.{fault_at, line_at, after_prefix, marker_at, marked, entry_at, starts_line, lines_at, row_at}
use Rattle.mime_text.specs.Magic.Reading.{head_of, instead, head_at}
use Rattle.mime_text.specs.Magic.Text.{NoNewline, BeginsMarker, AreLines}
use Rattle.mime_text.specs.Magic.FaultTable.{limit_after, IsSectionHead}
use Rattle.mime_text.proofs.MagicLemmas.Steps.{chosen}
use Rattle.mime_text.proofs.MagicLemmas.Prefixes.{row_found}
use Rattle.mime_text.proofs.MagicLemmas.EntryFound.{entry_found}
use Rattle.mime_text.proofs.MagicLemmas.SectionsOnly.{head_row_only}
use Rattle.mime_text.proofs.FaultLemmas.FaultSteps.{fault_is, bind_err}
use Rattle.mime_text.proofs.FaultLemmas.FaultOptions.{row_fails}
use Rattle.mime_text.proofs.FaultLemmas.FaultKinds.{LineFails}
use Rattle.mime_text.proofs.FaultLemmas.FaultLines.{line_fails}

-- ---- lines

-- a marker at the front is read
pub begins_read : (bytes : List ℕ) → BeginsMarker bytes → (rest : List ℕ) × (marker_at bytes ≡ Some rest)
unfolding marker_at after_prefix
begins_read bytes (front, rest, inl is, parts) = (rest, ap marker_at (parts ∙ ap (λ (t : List ℕ). t ++ rest) is))
begins_read bytes (front, rest, inr (inl is), parts) = (rest, ap marker_at (parts ∙ ap (λ (t : List ℕ). t ++ rest) is))
begins_read bytes (front, rest, inr (inr is), parts) = (rest, ap marker_at (parts ∙ ap (λ (t : List ℕ). t ++ rest) is))

-- an entry that fails is no marker but a line that fails
entry_fails : (limit : ℕ) (bytes : List ℕ) (f : Fault) → entry_at limit bytes ≡ Err f
    → (BeginsMarker bytes → ⊥) × (line_at limit bytes ≡ Err f)
unfolding entry_at
entry_fails limit bytes f e = go (marker_at bytes) refl e
  where
    go : (o : Option (List ℕ)) → marker_at bytes ≡ o → marked o (line_at limit bytes) ≡ Err f
        → (BeginsMarker bytes → ⊥) × (line_at limit bytes ≡ Err f)
    go (Some rest) is h = absurd cc
    go None is h = (λ begins. let r = begins_read bytes begins in let some = r.1 in absurd cc, h)

-- the lines before one that fails
pub record LinesFail (limit : ℕ) (bytes : List ℕ) (f : Fault) : Type 0 where
  pub text : List ℕ
  pub spelled : List PlainEntry
  pub line : List ℕ
  pub whole : bytes ≡ text ++ line
  pub are : AreLines limit text spelled
  pub no_marker : BeginsMarker line → ⊥
  pub fails : LineFails (limit_after limit spelled) line f

-- lines that fail
pub lines_fail : (room limit : ℕ) (bytes : List ℕ) (f : Fault) → limit ≤ 64 → length bytes ≤ room → lines_at room limit bytes ≡ Err f
    → LinesFail limit bytes f
unfolding lines_at
lines_fail zero limit bytes f low enough e = absurd cc
lines_fail (suc room) limit [] f low enough e = absurd cc
lines_fail (suc room) limit (b ∷ bytes) f low enough e =
    elim (chosen (starts_line b) _ _ _ e) [
      | inl h ↦ elim (bind_err (entry_at limit (b ∷ bytes)) _ f h.1) [
        | inl g ↦
            let one = entry_fails limit (b ∷ bytes) f g in
            record {
              text = [];
              spelled = [];
              line = b ∷ bytes;
              whole = refl;
              are = refl;
              no_marker = one.0;
              fails = line_fails limit b bytes f low h.0 one.1;
            }
        | inr a ↦
            let first = entry_found limit (b ∷ bytes) a.0 a.1 in
            elim (bind_err (lines_at room (a.0.0.indent + 1) a.0.1) _ f a.2) [
              | inl g ↦
                  let r =
                  lines_fail room (a.0.0.indent + 1) a.0.1 f (omega (arith, first.shallow)) (omega (arith, first.shorter, enough)) g in
                  record {
                    text = first.text ++ r.text;
                    spelled = a.0.0 ∷ r.spelled;
                    line = r.line;
                    whole = first.parts ∙ ap (λ (t : List ℕ). first.text ++ t) r.whole ∙ sym (append_assoc first.text r.text r.line);
                    are = (first.text, r.text, refl, first.is, r.are);
                    no_marker = r.no_marker;
                    fails = r.fails;
                  }
              | inr g ↦ let no = g.2 in absurd cc
            ]
      ]
      | inr h ↦ let no = h.1 in absurd cc
    ]

-- ---- heads

-- a head that is cut, that is none up to its newline, or that begins with another byte
pub data HeadFails (bytes : List ℕ) (f : Fault) : Type 0 where
  head_cut : (row : List ℕ) → bytes ≡ 91 ∷ row → NoNewline row → f ≡ fault_at Truncated 0 → HeadFails bytes f
  head_wrong : (row after : List ℕ) → bytes ≡ 91 ∷ (row ++ 10 ∷ after) → NoNewline row → (IsSectionHead row → ⊥)
      → f ≡ fault_at BadSection (length bytes) → HeadFails bytes f
  head_none : (first : ℕ) (after : List ℕ) → bytes ≡ first ∷ after → first ≢ 91 → f ≡ fault_at BadSection (length bytes) → HeadFails bytes f

-- another fault in place of any
instead_fails : {A : Type 0} (wrong f : Fault) (r : Result A Fault) → instead wrong r ≡ Err f → (wrong ≡ f) × ((x : A) → r ≡ Ok x → ⊥)
instead_fails wrong f (Ok x) e = absurd cc
instead_fails wrong f (Err g) e = (fault_is wrong f e, λ x no. absurd cc)

-- a head that fails
pub head_fails : (b : ℕ) (bytes : List ℕ) (f : Fault) → head_at (b ∷ bytes) ≡ Err f → HeadFails (b ∷ bytes) f
unfolding head_at
head_fails b bytes f e =
    let wrong : Fault = fault_at BadSection (length (b ∷ bytes)) in
    elim (chosen (eqb b 91) _ _ _ e) [
      | inl h ↦
          let bracket : b ∷ bytes ≡ 91 ∷ bytes = ap (λ (k : ℕ). k ∷ bytes) (eqb-true b 91 h.0) in
          elim (bind_err (row_at bytes) _ f h.1) [
            | inl g ↦ let r = row_fails bytes f g in head_cut bytes bracket r.1 r.0
            | inr a ↦
                let row = row_found bytes a.0 a.1 in
                elim (bind_err (instead wrong (head_of wrong a.0.0)) _ f a.2) [
                  | inl g ↦
                      let t = instead_fails wrong f (head_of wrong a.0.0) g in
                      head_wrong a.0.0 a.0.1 (bracket ∙ ap (λ (r : List ℕ). 91 ∷ r) row.0) row.1
                      (λ (text, n, kind, is, num, name). t.1 (n, kind)
                      (ap (head_of wrong) is ∙ head_row_only wrong text n kind num name)) (sym t.0)
                  | inr g ↦ let no = g.2 in absurd cc
                ]
          ]
      | inr h ↦ head_none b bytes refl (eqb-false b 91 h.0) (sym (fault_is wrong f h.1))
    ]
