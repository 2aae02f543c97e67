-- Sections that fail: those that are whole before, and what is wrong.
use Rattle.std.proofs.Common.{◌≡◌, ℕ, zero, suc, ◌≤◌, List, [], ◌∷◌, ◌++◌, length, Ok, Err, refl, sym, ap, subst, ◌∙◌, append_assoc, arith}
use Rattle.std.proofs.Common.{inl, inr, ◌⊎◌}
use Rattle.mime_text.specs.declared.magic.fault.Fault.{Fault}
use Rattle.mime_text.specs.Magic.Entries.{PlainFlatSection}
use Rattle.mime_text.specs.Magic.Reading.{lines_at, head_at, section_at, sections_at}
use Rattle.mime_text.specs.Magic.Text.{BeginsMarker, IsSection, AreSections}
use Rattle.mime_text.specs.Magic.FaultTable.{limit_after}
use Rattle.mime_text.proofs.MagicLemmas.Steps.{bind_ok, ok_is}
use Rattle.mime_text.proofs.MagicLemmas.HeadFound.{head_found}
use Rattle.mime_text.proofs.MagicLemmas.SectionsFound.{EndsLines, lines_found, regroup_section, section_found}
use Rattle.mime_text.proofs.FaultLemmas.FaultSteps.{bind_err}
use Rattle.mime_text.proofs.FaultLemmas.FaultKinds.{LineFails}
use Rattle.mime_text.proofs.FaultLemmas.FaultSections.{lines_fail, head_fails, HeadFails}

-- the sections before a head or a line that fails
pub data BelowFails (bytes : List ℕ) (f : Fault) : Type 0 where
  fails_head : (sections tail : List ℕ) (parts : List PlainFlatSection) → bytes ≡ sections ++ tail
      → AreSections sections parts → HeadFails tail f → (sections ≡ []) ⊎ EndsLines tail → BelowFails bytes f
  fails_line : (sections last line : List ℕ) (parts : List PlainFlatSection) (section : PlainFlatSection)
      → bytes ≡ sections ++ (last ++ line) → AreSections sections parts → IsSection last section
      → (BeginsMarker line → ⊥) → LineFails (limit_after 0 section.entries) line f → BelowFails bytes f

-- a section that is read ends where no line begins
section_ends : (bytes : List ℕ) (x : PlainFlatSection × List ℕ) → section_at bytes ≡ Ok x → EndsLines x.1
unfolding section_at
section_ends bytes x e =
    let a = bind_ok (head_at bytes) _ x e in
    let b =
    bind_ok (lines_at (length a.0.1) 0 a.0.1)
    (λ lines. Ok (record { priority = a.0.0.0; kind = a.0.0.1; entries = lines.0 }, lines.1)) x a.2 in
    let lines = lines_found (length a.0.1) 0 a.0.1 b.0 (omega arith) b.1 in
    let last : b.0.1 ≡ x.1 =
    ap (λ (y : PlainFlatSection × List ℕ). y.1) (ok_is (record { priority = a.0.0.0; kind = a.0.0.1; entries = b.0.0 }, b.0.1) x b.2) in
    subst EndsLines last lines.ends

-- a section that fails, in its head or in a line
section_fails : (b : ℕ) (bytes : List ℕ) (f : Fault) → section_at (b ∷ bytes) ≡ Err f → BelowFails (b ∷ bytes) f
unfolding section_at
section_fails b bytes f e =
    elim (bind_err (head_at (b ∷ bytes)) _ f e) [
      | inl h ↦ fails_head [] (b ∷ bytes) [] refl refl (head_fails b bytes f h) (inl refl)
      | inr a ↦
          let head = head_found (b ∷ bytes) a.0 a.1 in
          elim (bind_err (lines_at (length a.0.1) 0 a.0.1) _ f a.2) [
            | inl g ↦
                let l = lines_fail (length a.0.1) 0 a.0.1 f (omega arith) (omega arith) g in
                let section : PlainFlatSection = record { priority = a.0.0.0; kind = a.0.0.1; entries = l.spelled } in
                let last : List ℕ = 91 ∷ (head.text ++ (58 ∷ (a.0.0.1 ++ (93 ∷ 10 ∷ l.text)))) in
                let is : IsSection last section =
                record {
                  priority = head.text;
                  lines = l.text;
                  whole = refl;
                  priority_is = head.priority_is;
                  kind_is = head.kind_is;
                  lines_are = l.are;
                } in
                let parts : b ∷ bytes ≡ last ++ l.line =
                head.parts ∙ ap (λ (t : List ℕ). 91 ∷ (head.text ++ (58 ∷ (a.0.0.1 ++ (93 ∷ 10 ∷ t))))) l.whole
                ∙ sym (regroup_section head.text a.0.0.1 l.text l.line) in
                fails_line [] last l.line [] section parts refl is l.no_marker l.fails
            | inr g ↦ let no = g.2 in absurd cc
          ]
    ]

-- a whole section before what fails
after_section : (bytes text rest : List ℕ) (part : PlainFlatSection) (f : Fault) → bytes ≡ text ++ rest → IsSection text part
    → EndsLines rest → BelowFails rest f → BelowFails bytes f
after_section bytes text rest part f b s ends (fails_head sections tail parts is are h no_line) =
    let after : EndsLines tail = elim no_line [
      | inl none ↦ subst EndsLines (is ∙ ap (λ (t : List ℕ). t ++ tail) none) ends
      | inr other ↦ other
    ] in
    fails_head (text ++ sections) tail (part ∷ parts) (b ∙ ap (λ (t : List ℕ). text ++ t) is ∙ sym (append_assoc text sections tail))
    (text, sections, refl, s, are) h (inr after)
after_section bytes text rest part f b s ends (fails_line sections last line parts section is are l never h) =
    fails_line (text ++ sections) last line (part ∷ parts) section
    (b ∙ ap (λ (t : List ℕ). text ++ t) is ∙ sym (append_assoc text sections (last ++ line))) (text, sections, refl, s, are) l never h

-- sections that fail
pub below_fails : (room : ℕ) (bytes : List ℕ) (f : Fault) → length bytes ≤ room → sections_at room bytes ≡ Err f → BelowFails bytes f
unfolding sections_at
below_fails zero bytes f enough e = absurd cc
below_fails (suc room) [] f enough e = absurd cc
below_fails (suc room) (b ∷ bytes) f enough e =
    elim (bind_err (section_at (b ∷ bytes)) _ f e) [
      | inl h ↦ section_fails b bytes f h
      | inr a ↦
          let first = section_found (b ∷ bytes) a.0 a.1 in
          elim (bind_err (sections_at room a.0.1) _ f a.2) [
            | inl g ↦
                after_section (b ∷ bytes) first.text a.0.1 a.0.0 f first.parts first.is (section_ends (b ∷ bytes) a.0 a.1)
                (below_fails room a.0.1 f (omega (arith, first.shorter, enough)) g)
            | inr g ↦ let no = g.2 in absurd cc
          ]
    ]
