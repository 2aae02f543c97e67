-- Sections that are read with their lines, step by step.
use Rattle.std.proofs.Common.{◌≡◌, ℕ, ◌+◌, ◌-◌, ◌*◌, Ok, List, [], ◌∷◌, ◌++◌, length, get_or}
use Rattle.std.proofs.Common.{refl, ap, ap₂, ◌∙◌, sym, arith, append-nil}
use Rattle.std.proofs.lemmas.Grind.{flat_map-append}
use Rattle.std.proofs.lemmas.List.{length-map, map_push}
use Rattle.std.proofs.lemmas.List.Concat.{flat_map-cons}
use Rattle.std.specs.List.{flat_map}
use Rattle.mime_base.specs.Cache.Bytes.{Stands, fields}
use Rattle.mime_base.specs.Cache.Texts.{text_at}
use Rattle.mime_base.specs.Format.Records.{CardsAt}
use Rattle.mime_base.specs.Magic.{PlainLine, PlainSection}
use Rattle.mime_load.specs.Adding.{AddsLines, AddsSection, ReadsSections, flat, head_of, plain_head}
use Rattle.mime_load.specs.declared.line.LentLine.{LentLine}
use Rattle.mime_load.specs.declared.section.LentSection.{LentSection}
use Rattle.mime_load.specs.declared.taking.Taking.{Taking}
use Rattle.mime_load.proofs.AddedLines.{length-added}
use Rattle.mime_load.proofs.SectionLemmas.{no_sections, section_stands, sections_more}
use Rattle.mime_load.proofs.TakingLemmas.{sections_taken}

-- the numbers of a section that were read, and its lines
pub adds_section : (c : List ℕ) (at : ℕ) (r : List ℕ) (priority : ℕ) (kind : List ℕ) (section : LentSection) (old new : List LentLine)
    (before between after : Taking) → r ≡ fields c at 4 → CardsAt (Stands c) at r → priority ≡ get_or r 0 0
    → text_at c (get_or r 1 0) ≡ Ok kind → plain_head section ≡ (priority, kind, length new - length old)
    → between.records + 16 ≡ before.records → between.value_bytes ≡ before.value_bytes
    → AddsLines c (get_or r 3 0) 64 (get_or r 2 0) old new between after → AddsSection c at section old new before after
adds_section c at r priority kind section old new before between after is stand ep text head records values added =
    let f = added.lines in
    let many = length-added c (get_or r 3 0) 64 (get_or r 2 0) old new between after added in
    record {
      plain = record { priority = priority; kind = kind; lines = f };
      is = head ∙ ap (λ (n : ℕ). (priority, kind, n)) (omega (arith, many));
      are = added.are;
      stands = section_stands c at r priority kind f is stand ep text added.count added.stand;
      taken = record {
        records = omega (arith, records, added.taken.records);
        value_bytes = omega (arith, values, added.taken.value_bytes);
      };
    }

-- no sections are read
pub reads_none : (c : List ℕ) (first : ℕ) (before : Taking) → ReadsSections c first [] [] before before
reads_none c first before = record {
  plain = [];
  are = record { heads = refl; flat_lines = refl };
  stand = no_sections c first;
  taken = record { records = omega arith; value_bytes = omega arith };
}

-- there are as many sections of the code
pub length-read : (c : List ℕ) (first : ℕ) (sections : List LentSection) (lines : List LentLine) (before after : Taking)
    (read : ReadsSections c first sections lines before after) → length read.plain ≡ length sections
length-read c first sections lines before after read =
    sym (length-map read.plain head_of) ∙ ap (λ (hs : List (ℕ × List ℕ × ℕ)). length hs) (sym read.are.heads)
    ∙ length-map sections plain_head

-- the entries of one more section
lines_more : (ps : List PlainSection) (p : PlainSection)
    → flat_map (λ q. flat q.lines) (ps ++ p ∷ []) ≡ flat_map (λ q. flat q.lines) ps ++ flat p.lines
lines_more ps p =
    flat_map-append (λ (q : PlainSection). flat q.lines) ps (p ∷ [])
    ∙ ap (λ (es : List (PlainLine × ℕ)). flat_map (λ q. flat q.lines) ps ++ es)
    (flat_map-cons (λ (q : PlainSection). flat q.lines) p [] ∙ append-nil (flat p.lines))

-- one more is read
pub reads_more : (c : List ℕ) (first i at : ℕ) (sections : List LentSection) (s : LentSection) (old new : List LentLine)
    (before between after : Taking) → ReadsSections c first sections old before between → length sections ≡ i → at ≡ first + 16 * i
    → AddsSection c at s old new between after → ReadsSections c first (sections ++ s ∷ []) new before after
reads_more c first i at sections s old new before between after so_far size place one =
    let ps = so_far.plain in
    let p = one.plain in
    let many : length ps ≡ i = length-read c first sections old before between so_far ∙ size in
    record {
      plain = ps ++ p ∷ [];
      are = record {
        heads =
            map_push plain_head sections s
            ∙ ap₂ (λ (hs : List (ℕ × List ℕ × ℕ)) (h : ℕ × List ℕ × ℕ). hs ++ h ∷ []) so_far.are.heads one.is
            ∙ sym (map_push head_of ps p);
        flat_lines =
            one.are ∙ ap (λ (es : List (PlainLine × ℕ)). es ++ flat p.lines) so_far.are.flat_lines ∙ sym (lines_more ps p);
      };
      stand = sections_more c first i at ps p so_far.stand many place one.stands;
      taken = sections_taken before between after ps p so_far.taken one.taken;
    }
