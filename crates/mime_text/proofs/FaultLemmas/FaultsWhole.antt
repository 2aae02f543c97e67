-- Whole texts with more lines and sections.
use Rattle.std.proofs.Common.{◌≡◌, ℕ, ◌+◌, List, [], ◌∷◌, ◌++◌, refl, sym, ap, subst, ◌∙◌, append_assoc, inr}
use Rattle.std.proofs.lemmas.List.{append-nil}
use Rattle.mime_text.specs.Magic.Entries.{PlainEntry, PlainFlatSection}
use Rattle.mime_text.specs.Magic.Reading.{header}
use Rattle.mime_text.specs.Magic.Text.{AreLines, IsSection, AreSections, MagicText}
use Rattle.mime_text.specs.Magic.FaultTable.{limit_after, IsBeforeLine}

-- ---- whole texts with more

-- lines after lines
lines_append : (limit : ℕ) (text : List ℕ) (entries : List PlainEntry) (rest : List ℕ) (others : List PlainEntry)
    → AreLines limit text entries → AreLines (limit_after limit entries) rest others → AreLines limit (text ++ rest) (entries ++ others)
lines_append limit text [] rest others are more = subst (λ (t : List ℕ). AreLines limit (t ++ rest) others) (sym are) more
lines_append limit text (item ∷ entries) rest others are more = (
  are.0,
  are.1 ++ rest,
  ap (λ (t : List ℕ). t ++ rest) are.2
      ∙ append_assoc are.0 are.1 rest,
  are.3,
  lines_append (item.indent + 1) are.1 entries rest others are.4 more,
)

-- lines after a section
section_append : (last rest : List ℕ) (section : PlainFlatSection) (others : List PlainEntry) → IsSection last section
    → AreLines (limit_after 0 section.entries) rest others
    → IsSection (last ++ rest) (record { priority = section.priority; kind = section.kind; entries = section.entries ++ others })
section_append last rest section others is more = record {
  priority = is.priority;
  lines = is.lines ++ rest;
  whole = ap (λ (t : List ℕ). t ++ rest) is.whole ∙ regroup is.priority section.kind is.lines rest;
  priority_is = is.priority_is;
  kind_is = is.kind_is;
  lines_are = lines_append 0 is.lines section.entries rest others is.lines_are more;
}
  where
    regroup : (text kind lines rest : List ℕ)
        → (91 ∷ (text ++ (58 ∷ (kind ++ (93 ∷ 10 ∷ lines))))) ++ rest ≡ 91 ∷ (text ++ (58 ∷ (kind ++ (93 ∷ 10 ∷ (lines ++ rest)))))
    regroup text kind lines rest = simp append_assoc

-- a section after sections
pub sections_append : (text last : List ℕ) (parts : List PlainFlatSection) (section : PlainFlatSection)
    → AreSections text parts → IsSection last section → AreSections (text ++ last) (parts ++ section ∷ [])
sections_append text last [] section are is =
    subst (λ (t : List ℕ). AreSections (t ++ last) (section ∷ [])) (sym are) (last, [], sym (append-nil last), is, refl)
sections_append text last (part ∷ parts) section are is = (
  are.0,
  are.1 ++ last,
  ap (λ (t : List ℕ). t ++ last) are.2
      ∙ append_assoc are.0 are.1 last,
  are.3,
  sections_append are.1 last parts section are.4 is,
)

-- lines where a line may come make a whole text
pub whole_lines : (limit : ℕ) (text before rest : List ℕ) (others : List PlainEntry) → IsBeforeLine limit before
    → AreLines limit rest others → text ≡ before ++ rest → (parts : List PlainFlatSection) × MagicText text parts
whole_lines limit text before rest others b are is =
    let section : PlainFlatSection =
    record { priority = b.section.priority; kind = b.section.kind; entries = b.section.entries ++ others } in
    let last : List ℕ = b.last ++ rest in
    let after : AreLines (limit_after 0 b.section.entries) rest others = subst (λ (n : ℕ). AreLines n rest others) (sym b.limit_is) are in
    let s : IsSection last section = section_append b.last rest b.section others b.last_is after in
    let w = b.before_are in
    let whole : text ≡ header ++ (w.sections ++ last) =
    is ∙ ap (λ (t : List ℕ). t ++ rest) (b.whole ∙ ap (λ (t : List ℕ). t ++ b.last) w.whole) ∙ regroup header w.sections b.last rest in
    (w.parts ++ section ∷ [], inr (w.sections ++ last, whole, sections_append w.sections last w.parts section w.are s))
  where
    regroup : (a b c d : List ℕ) → ((a ++ b) ++ c) ++ d ≡ a ++ (b ++ (c ++ d))
    regroup a b c d = simp append_assoc
