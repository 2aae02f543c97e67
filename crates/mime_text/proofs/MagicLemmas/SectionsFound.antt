-- Sections against the grammar: what is read is spelled so.
use Rattle.std.proofs.Common.{◌≡◌, ℕ, zero, suc, ◌+◌, ◌<◌, ◌≤◌, false, List, [], ◌∷◌, ◌++◌, length, length-append, Option, Some, None, Ok}
use Rattle.std.proofs.Common.{refl, sym, ap, subst, ◌∙◌, append_assoc, arith, inl, inr}
use Rattle.mime_text.specs.Magic.Entries.{PlainEntry, PlainFlatSection}
use Rattle.mime_text.specs.Magic.Reading.{◌>>=◌, head_at, entry_at, starts_line, lines_at, section_at, sections_at, after_prefix, header}
use Rattle.mime_text.specs.Magic.Reading.{below_header, whole}
use Rattle.mime_text.proofs.MagicLemmas.Prefixes.{after_prefix_found}
use Rattle.mime_text.specs.Magic.Text.{AreLines, IsSection, AreSections, MagicText}
use Rattle.mime_text.proofs.MagicLemmas.Steps.{bind_ok, chosen, ok_is, then_lines}
use Rattle.mime_text.proofs.MagicLemmas.EntryFound.{entry_found}
use Rattle.mime_text.proofs.MagicLemmas.HeadFound.{head_found}

-- the text has no byte, or one that starts no line
abbrev pub EndsLines : List ℕ → Type 0
EndsLines [] = Unit {0}
EndsLines (b ∷ rest) = starts_line b ≡ false

-- the text of lines, and what comes after them
pub record TheLines (limit : ℕ) (bytes : List ℕ) (lines : List PlainEntry) (rest : List ℕ) : Type 0 where
  pub text : List ℕ
  pub parts : bytes ≡ text ++ rest
  pub are : AreLines limit text lines
  pub ends : EndsLines rest

-- lines that are read are spelled so
pub lines_found : (room limit : ℕ) (bytes : List ℕ) (x : List PlainEntry × List ℕ) → length bytes ≤ room → lines_at room limit bytes ≡ Ok x
    → TheLines limit bytes x.0 x.1
unfolding lines_at
lines_found zero limit [] x enough e = subst (λ (y : List PlainEntry × List ℕ). TheLines limit [] y.0 y.1) (ok_is ([], []) x e) (record {
  text = [];
  parts = refl;
  are = refl;
  ends = tt;
})
lines_found zero limit (b ∷ bytes) x enough e = absurd (omega (arith, enough))
lines_found (suc room) limit [] x enough e =
    subst (λ (y : List PlainEntry × List ℕ). TheLines limit [] y.0 y.1) (ok_is ([], []) x e) (record {
      text = [];
      parts = refl;
      are = refl;
      ends = tt;
    })
lines_found (suc room) limit (b ∷ bytes) x enough e =
    elim (chosen (starts_line b) (entry_at limit (b ∷ bytes) >>= then_lines room) (Ok ([], b ∷ bytes)) (Ok x) e) [
      | inl h ↦
          let a = bind_ok (entry_at limit (b ∷ bytes)) (then_lines room) x h.1 in
          let c = bind_ok (lines_at room (a.0.0.indent + 1) a.0.1) (λ others. Ok (a.0.0 ∷ others.0, others.1)) x a.2 in
          let first = entry_found limit (b ∷ bytes) a.0 a.1 in
          let others = lines_found room (a.0.0.indent + 1) a.0.1 c.0 (omega (arith, first.shorter, enough)) c.1 in
          subst (λ (y : List PlainEntry × List ℕ). TheLines limit (b ∷ bytes) y.0 y.1) (ok_is (a.0.0 ∷ c.0.0, c.0.1) x c.2)
          (record {
            text = first.text ++ others.text;
            parts = first.parts ∙ ap (λ (t : List ℕ). first.text ++ t) others.parts ∙ sym (append_assoc first.text others.text c.0.1);
            are = (first.text, others.text, refl, first.is, others.are);
            ends = others.ends;
          })
      | inr h ↦ subst (λ (y : List PlainEntry × List ℕ). TheLines limit (b ∷ bytes) y.0 y.1) (ok_is ([], b ∷ bytes) x h.1) (record {
        text = [];
        parts = refl;
        are = refl;
        ends = h.0;
      })
    ]

-- the text of a section, and what comes after it
pub record TheSection (bytes : List ℕ) (section : PlainFlatSection) (rest : List ℕ) : Type 0 where
  pub text : List ℕ
  pub parts : bytes ≡ text ++ rest
  pub shorter : length rest < length bytes
  pub is : IsSection text section

-- what comes after a section moves into its grouping
pub regroup_section : (text kind lines rest : List ℕ)
    → (91 ∷ (text ++ (58 ∷ (kind ++ (93 ∷ 10 ∷ lines))))) ++ rest ≡ 91 ∷ (text ++ (58 ∷ (kind ++ (93 ∷ 10 ∷ (lines ++ rest)))))
regroup_section text kind lines rest = simp append_assoc

-- a section that is read is spelled so
pub section_found : (bytes : List ℕ) (x : PlainFlatSection × List ℕ) → section_at bytes ≡ Ok x → TheSection bytes x.0 x.1
unfolding section_at
section_found bytes x e =
    let a = bind_ok (head_at bytes) _ x e in
    let b = bind_ok (lines_at (length a.0.1) 0 a.0.1) (λ lines. Ok (
      record {
        priority = a.0.0.0;
        kind = a.0.0.1;
        entries = lines.0;
      },
      lines.1,
    )) x a.2 in
    let head = head_found bytes a.0 a.1 in
    let lines = lines_found (length a.0.1) 0 a.0.1 b.0 (omega arith) b.1 in
    let parts : bytes ≡ (91 ∷ (head.text ++ (58 ∷ (a.0.0.1 ++ (93 ∷ 10 ∷ lines.text))))) ++ b.0.1 =
    head.parts ∙ ap (λ (t : List ℕ). 91 ∷ (head.text ++ (58 ∷ (a.0.0.1 ++ (93 ∷ 10 ∷ t))))) lines.parts
    ∙ sym (regroup_section head.text a.0.0.1 lines.text b.0.1) in
    subst (λ (y : PlainFlatSection × List ℕ). TheSection bytes y.0 y.1) (ok_is (
      record {
        priority = a.0.0.0;
        kind = a.0.0.1;
        entries = b.0.0;
      },
      b.0.1,
    ) x b.2)
    (record {
      text = 91 ∷ (head.text ++ (58 ∷ (a.0.0.1 ++ (93 ∷ 10 ∷ lines.text))));
      parts = parts;
      shorter = omega (arith, ap length parts, length-append (91 ∷ (head.text ++ (58 ∷ (a.0.0.1 ++ (93 ∷ 10 ∷ lines.text))))) b.0.1);
      is = record {
        priority = head.text;
        lines = lines.text;
        whole = refl;
        priority_is = head.priority_is;
        kind_is = head.kind_is;
        lines_are = lines.are;
      };
    })

-- sections that are read are spelled so
pub sections_found : (room : ℕ) (bytes : List ℕ) (x : List PlainFlatSection) → length bytes ≤ room → sections_at room bytes ≡ Ok x
    → AreSections bytes x
unfolding sections_at
sections_found zero [] x enough e = subst (λ (y : List PlainFlatSection). AreSections [] y) (ok_is [] x e) refl
sections_found zero (b ∷ bytes) x enough e = absurd (omega (arith, enough))
sections_found (suc room) [] x enough e = subst (λ (y : List PlainFlatSection). AreSections [] y) (ok_is [] x e) refl
sections_found (suc room) (b ∷ bytes) x enough e =
    let a = bind_ok (section_at (b ∷ bytes)) _ x e in
    let c = bind_ok (sections_at room a.0.1) (λ others. Ok (a.0.0 ∷ others)) x a.2 in
    let first = section_found (b ∷ bytes) a.0 a.1 in
    let others = sections_found room a.0.1 c.0 (omega (arith, first.shorter, enough)) c.1 in
    subst (λ (y : List PlainFlatSection). AreSections (b ∷ bytes) y) (ok_is (a.0.0 ∷ c.0) x c.2)
    (first.text, a.0.1, first.parts, first.is, others)

-- and after the header
below_header_found : (bytes : List ℕ) (o : Option (List ℕ)) (x : List PlainFlatSection) → after_prefix header bytes ≡ o
    → below_header (length bytes) o ≡ Ok x → MagicText bytes x
below_header_found bytes None x is e = absurd cc
below_header_found bytes (Some rest) x is e =
    inr (rest, after_prefix_found header bytes rest is, sections_found (length rest) rest x (omega arith) e)

-- a text that is read is spelled so
pub whole_found : (bytes : List ℕ) (x : List PlainFlatSection) → whole bytes ≡ Ok x → MagicText bytes x
unfolding whole
whole_found [] x e = inl (refl, sym (ok_is [] x e))
whole_found (b ∷ bytes) x e = below_header_found (b ∷ bytes) (after_prefix header (b ∷ bytes)) x refl e
