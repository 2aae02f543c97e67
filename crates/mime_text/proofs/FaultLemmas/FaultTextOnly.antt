-- A text that has a fault by the table fails so.
use Rattle.std.proofs.Common.{◌≡◌, ℕ, ◌+◌, ◌<◌, List, [], ◌∷◌, ◌++◌, length, length-append, Option, Some, None, Err, refl, sym, ap, subst}
use Rattle.std.proofs.Common.{◌∙◌, append_assoc, arith, inl, inr}
use Rattle.std.specs.Prelude.{◌≢◌}
use Rattle.mime_text.specs.declared.magic.fault.MagicFaultKind.{MagicFaultKind}
use Rattle.mime_text.specs.declared.magic.fault.Fault.{Fault}
use Rattle.mime_text.specs.declared.magic.fault.MagicFault.TheVariants.{Malformed, OutOfMemory}
use Rattle.mime_text.specs.declared.magic.fault.MagicFaultKind.TheVariants.{NoHeader, Truncated, BadSection, BadNumber, BadWord, BadIndent}
use Rattle.mime_text.specs.declared.magic.fault.MagicFaultKind.TheVariants.{TooDeep}
use Rattle.mime_text.specs.declared.magic.fault.MagicFault.{MagicFault}
use Rattle.mime_text.specs.Magic.Entries.{PlainFlatSection}
use Rattle.mime_text.specs.Magic.Reading.{fault_at, section_at, after_prefix, header, below_header, whole, placed, fault_in, magic_fault}
use Rattle.mime_text.specs.Magic.Text.{AreSections}
use Rattle.mime_text.specs.Magic.FaultTable.{AreWhole, IsCutHead, IsMisheaded, IsMisplaced, HasFault, InLine}
use Rattle.mime_text.proofs.MagicLemmas.Prefixes.{after_prefix_only, after_prefix_found}
use Rattle.mime_text.proofs.MagicLemmas.SectionsFound.{EndsLines}
use Rattle.mime_text.proofs.FaultLemmas.FaultKinds.{LineFault}
use Rattle.mime_text.proofs.FaultLemmas.FaultStarts.{StartsLine, line_starts}
use Rattle.mime_text.proofs.FaultLemmas.FaultLinesOnly.{line_gives}
use Rattle.mime_text.proofs.FaultLemmas.FaultSectionsOnly.{entry_then, section_then, Follows, sections_then}
use Rattle.mime_text.proofs.FaultLemmas.FaultHeadsOnly.{head_then, cut_head, wrong_head, no_head}

-- what is told of a text whose reading fails
told : (text : List ℕ) (f : Fault) → whole text ≡ Err f → magic_fault text ≡ Some (placed (length text) f)
unfolding magic_fault
told text f e = ap (fault_in (length text)) e

-- whole sections before one that fails
pub text_then : (text before rest : List ℕ) (f : Fault) (are : AreWhole before) → text ≡ before ++ rest → 0 < length rest
    → Follows are.parts rest → section_at rest ≡ Err f → magic_fault text ≡ Some (placed (length text) f)
unfolding whole
text_then text before rest f are is some follows e =
    let below : List ℕ = are.sections ++ rest in
    let all : text ≡ header ++ below = is ∙ ap (λ (t : List ℕ). t ++ rest) are.whole ∙ append_assoc header are.sections rest in
    let fails : whole (header ++ below) ≡ Err f =
    ap (below_header (length (header ++ below))) (after_prefix_only header below)
    ∙ sections_then (length below) are.sections are.parts rest f are.are follows some e (omega arith) in
    told text f (ap whole all ∙ fails)

-- ---- what stands before

-- a byte that starts no line may follow
ends_follow : (parts : List PlainFlatSection) (rest : List ℕ) → EndsLines rest → Follows parts rest
ends_follow [] rest ends = tt
ends_follow (part ∷ parts) rest ends = ends

-- after the header alone stand no sections
bare : (before : List ℕ) (are : AreWhole before) → before ≡ header → (rest : List ℕ) → Follows are.parts rest
bare before are none rest = go are.parts are.are
  where
    go : (parts : List PlainFlatSection) → AreSections are.sections parts → Follows parts rest
    go [] is = tt
    go (part ∷ parts) is =
        absurd (omega (
          arith,
          ap length none,
          ap length are.whole,
          length-append header are.sections,
          ap length is.2,
          length-append is.0 is.1,
          ap length is.3.whole,
        ))

-- ---- the rows of the table

-- the fault at the byte after a front
at_section : (text before rest : List ℕ) (at : ℕ) → text ≡ before ++ rest → at ≡ length before
    → Some (placed (length text) (fault_at BadSection (length rest))) ≡ Some (Malformed BadSection at)
at_section text before rest at is place =
    ap (λ (n : ℕ). Some (Malformed BadSection n)) (omega (arith, ap length is, length-append before rest, place))

-- a head that is cut
cut_only : (text : List ℕ) (at : ℕ) → IsCutHead text → at ≡ length text → magic_fault text ≡ Some (Malformed Truncated at)
cut_only text at cut place =
    text_then text cut.before (91 ∷ cut.row) (fault_at Truncated 0) cut.before_are cut.whole (omega arith)
    (ends_follow cut.before_are.parts (91 ∷ cut.row) refl)
    (head_then (91 ∷ cut.row) (fault_at Truncated 0) (cut_head cut.row cut.open_ended))
    ∙ ap (λ (n : ℕ). Some (Malformed Truncated n)) (omega (arith, place))

-- a head that is wrong
misheaded_only : (text : List ℕ) (at : ℕ) → IsMisheaded text at → magic_fault text ≡ Some (Malformed BadSection at)
misheaded_only text at m =
    let rest : List ℕ = 91 ∷ (m.row ++ 10 ∷ m.after) in
    text_then text m.before rest (fault_at BadSection (length rest)) m.before_are m.whole (omega arith)
    (ends_follow m.before_are.parts rest refl)
    (head_then rest (fault_at BadSection (length rest)) (wrong_head m.row m.after m.is_row m.no_head))
    ∙ at_section text m.before rest at m.whole m.place

-- a byte that begins neither
misplaced_only : (text : List ℕ) (at : ℕ) → IsMisplaced text at → magic_fault text ≡ Some (Malformed BadSection at)
misplaced_only text at m =
    let rest : List ℕ = m.first ∷ m.after in
    let follows : Follows m.before_are.parts rest = elim m.no_line [
      | inl none ↦ bare m.before m.before_are none rest
      | inr other ↦ ends_follow m.before_are.parts rest other
    ] in
    text_then text m.before rest (fault_at BadSection (length rest)) m.before_are m.whole (omega arith) follows
    (head_then rest (fault_at BadSection (length rest)) (no_head m.first m.after m.no_head))
    ∙ at_section text m.before rest at m.whole m.place

-- a line that is wrong
line_only : (kind : MagicFaultKind) (text : List ℕ) (at : ℕ) → InLine (LineFault kind) text at → magic_fault text ≡ Some (Malformed kind at)
line_only kind text at l =
    let b = l.before_is in
    let g = line_gives l.limit l.line kind l.within l.wrong in
    let starts : StartsLine l.line = line_starts l.limit l.line kind l.within l.wrong in
    let entry = entry_then l.limit l.line g.fails l.no_marker g.is in
    let section : section_at (b.last ++ l.line) ≡ Err g.fails =
    section_then b.last l.line b.section g.fails b.last_is starts (rw b.limit_is entry) in
    let whole : text ≡ b.before ++ (b.last ++ l.line) =
    l.whole ∙ ap (λ (t : List ℕ). t ++ l.line) b.whole ∙ append_assoc b.before b.last l.line in
    let begins : EndsLines (b.last ++ l.line) = subst (λ (t : List ℕ). EndsLines (t ++ l.line)) (sym b.last_is.whole) refl in
    let some : 0 < length (b.last ++ l.line) = omega (arith, length-append b.last l.line, ap length b.last_is.whole) in
    let size : length text ≡ length l.before + length l.line = ap length l.whole ∙ length-append l.before l.line in
    let same : placed (length text) g.fails ≡ Malformed kind at =
    ap (λ (n : ℕ). placed n g.fails) size ∙ g.places.at (length l.before) ∙ ap (λ (n : ℕ). Malformed kind n) (sym l.place) in
    text_then text b.before (b.last ++ l.line) g.fails b.before_are whole some
    (ends_follow b.before_are.parts (b.last ++ l.line) begins) section
    ∙ ap (λ (k : MagicFault). Some k) same

-- a text that has no header
header_only : (text : List ℕ) (at : ℕ) → text ≢ [] → ((rest : List ℕ) → text ≢ header ++ rest) → at ≡ 0
    → magic_fault text ≡ Some (Malformed NoHeader at)
unfolding whole
header_only [] at some never place = absurd (some refl)
header_only (b ∷ bytes) at some never place = go (after_prefix header (b ∷ bytes)) refl
  where
    go : (o : Option (List ℕ)) → after_prefix header (b ∷ bytes) ≡ o → magic_fault (b ∷ bytes) ≡ Some (Malformed NoHeader at)
    go (Some rest) is = absurd (never rest (after_prefix_found header (b ∷ bytes) rest is))
    go None is =
        told (b ∷ bytes) (fault_at NoHeader (length (b ∷ bytes))) (ap (below_header (length (b ∷ bytes))) is)
        ∙ ap (λ (n : ℕ). Some (Malformed NoHeader n)) (omega (arith, place))

-- a fault by the table is the text's
pub fault_only : (text : List ℕ) (fault : MagicFault) → HasFault text fault → magic_fault text ≡ Some fault
fault_only text (Malformed NoHeader at) is = header_only text at is.0 is.1 is.2
fault_only text (Malformed Truncated at) (inl is) = cut_only text at is.0 is.1
fault_only text (Malformed Truncated at) (inr is) = line_only Truncated text at is
fault_only text (Malformed BadSection at) (inl is) = misheaded_only text at is
fault_only text (Malformed BadSection at) (inr is) = misplaced_only text at is
fault_only text (Malformed BadNumber at) is = line_only BadNumber text at is
fault_only text (Malformed BadWord at) is = line_only BadWord text at is
fault_only text (Malformed BadIndent at) is = line_only BadIndent text at is
fault_only text (Malformed TooDeep at) is = line_only TooDeep text at is
fault_only text OutOfMemory is = absurd is
