-- Lines of indent 0 with what their sections give: what the first that holds gives is what the first section that holds gives.
use Rattle.std.proofs.Common.{◌≡◌, ℕ, ◌+◌, ◌<◌, ◌||◌, Bool, true, false, cond, List, [], ◌∷◌, ◌++◌, length, get_or, map, drop}
use Rattle.std.proofs.Common.{Option, None, Some, refl, sym, ap, ap₂, ◌∙◌}
use Rattle.std.proofs.lemmas.List.{append_assoc, get_or-map, length-map, map_push}
use Rattle.mime_base.specs.Magic.Holds.{first_magic, line_holds, some_holds}
use Rattle.mime_base.specs.Magic.{Forest, PlainMatchlet, PlainSection, bare, forest_of, line}
use Rattle.mime_base.specs.declared.magic.host.Host.{Host}
use Rattle.mime_base.proofs.MagicLemmas.HoldingLines.{some_holds-line, some_holds-none}
use Rattle.mime_lookup.proofs.AncestryLemmas.PairSteps.{items_from}
use Rattle.mime_lookup.proofs.IndexLemmas.LineHeads.{line_heads-length}
use Rattle.mime_lookup.proofs.SniffLemmas.FirstSections.{first_magic-nil, first_magic-section}
use Rattle.mime_lookup.specs.Heads.{AreLineHeads}
use Rattle.mime_lookup.specs.TopLines.{PlainTop, lines_of, plain_top, plain_tops, top_lines, tops_of}
use Rattle.mime_lookup.specs.declared.indexed.line_head.LineHead.{LineHead}
use Rattle.mime_lookup.specs.declared.indexed.top_line.TopLine.{TopLine}

-- a choice by one of two tests
cond-or : {A : Type 0} (b c : Bool) (x y : A) → cond (b || c) x y ≡ cond b x (cond c x y)
cond-or true c x y = refl
cond-or false c x y = refl

-- the first lines of the forest of some lines are these
lines_of-forest : (lines : List PlainMatchlet) → lines_of (forest_of lines) ≡ lines
lines_of-forest [] = refl
lines_of-forest (m ∷ lines) = ap (λ rest. m ∷ rest) (lines_of-forest lines)

module _ {L : Type 0} (plain : L → PlainMatchlet) (kind : List ℕ) (priority : ℕ) where
  -- a line of a section of this type and priority
  abbrev top_of : PlainMatchlet → PlainTop
  top_of m = record { kind = kind; priority = priority; line = m }

  -- a section of these lines
  abbrev section_of : List PlainMatchlet → PlainSection
  section_of lines = record { priority = priority; kind = kind; lines = forest_of lines }

  -- its lines of indent 0
  tops_of-lines : (lines : List PlainMatchlet) → tops_of (section_of lines) ≡ map top_of lines
  tops_of-lines lines = ap (map top_of) (lines_of-forest lines)

  -- a line more of the section
  pub tops_pushed : (tops new : List (TopLine L)) (old : List PlainTop) (lines more : List PlainMatchlet) (top : TopLine L) →
      plain_tops plain tops ≡ old ++ tops_of (section_of lines) → new ≡ tops ++ top ∷ [] → plain_top plain top ≡ top_of (plain top.line) →
      more ≡ lines ++ plain top.line ∷ [] → plain_tops plain new ≡ old ++ tops_of (section_of more)
  tops_pushed tops new old lines more top so_far pushed is more_is =
      ap (plain_tops plain) pushed
      ∙ map_push (plain_top plain) tops top
      ∙ ap₂ (λ ts t. ts ++ t ∷ []) (so_far ∙ ap (λ ts. old ++ ts) (tops_of-lines lines)) is
      ∙ append_assoc old (map top_of lines) (top_of (plain top.line) ∷ [])
      ∙ ap (λ ts. old ++ ts) (sym (map_push top_of lines (plain top.line)) ∙ ap (map top_of) (sym more_is) ∙ sym (tops_of-lines more))

-- there are as many heads as lines of the code
pub tops-length : {L : Type 0} (plain : L → PlainMatchlet) (heads : List LineHead) (tops : List (TopLine L)) →
    AreLineHeads heads (plain_tops plain tops) → length heads ≡ length tops
tops-length plain heads tops are = line_heads-length heads (plain_tops plain tops) are ∙ length-map tops (plain_top plain)

-- of some lines of the code the one at a place
pub at_top : {L : Type 0} (plain : L → PlainMatchlet) (tops : List (TopLine L)) (i : ℕ) (of_code : TopLine L) → i < length tops →
    of_code ≡ get_or tops i of_code → plain_top plain of_code ≡ get_or (plain_tops plain tops) i (plain_top plain of_code)
at_top plain tops i of_code within is =
    ap (plain_top plain) is ∙ sym (get_or-map (plain_top plain) tops i of_code (plain_top plain of_code) within)

module _ (content : List ℕ) (host : Host) where
  -- what the first of some lines that holds gives
  abbrev pub first_top : List PlainTop → Option (List ℕ × ℕ)
  first_top [] = None
  first_top (top ∷ tops) = cond (line_holds top.line content host) (Some (top.kind, top.priority)) (first_top tops)

  module _ (kind : List ℕ) (priority : ℕ) where
    -- the lines of a section, and others after them
    section_tops : (lines : Forest) (rest : List PlainTop) →
        first_top (map (λ m. record { kind = kind; priority = priority; line = m }) (lines_of lines) ++ rest)
        ≡ cond (some_holds lines content host) (Some (kind, priority)) (first_top rest)
    section_tops bare rest = sym (ap (λ b. cond b (Some (kind, priority)) (first_top rest)) (some_holds-none content host))
    section_tops (line own children more) rest =
        let m : PlainMatchlet = record { own = own; children = children } in
        let found : Option (List ℕ × ℕ) = Some (kind, priority) in
        ap (cond (line_holds m content host) found) (section_tops more rest)
        ∙ sym (cond-or (line_holds m content host) (some_holds more content host) found (first_top rest))
        ∙ sym (ap (λ b. cond b found (first_top rest)) (some_holds-line content host m more))

  -- the lines of all sections
  pub all_tops : (sections : List PlainSection) → first_top (top_lines sections) ≡ first_magic sections content host
  all_tops [] = sym (first_magic-nil content host)
  all_tops (section ∷ sections) =
      section_tops section.kind section.priority section.lines (top_lines sections)
      ∙ ap (cond (some_holds section.lines content host) (Some (section.kind, section.priority))) (all_tops sections)
      ∙ sym (first_magic-section content host section sections)

  -- the lines from one on
  pub tops_from : (tops : List PlainTop) (i : ℕ) (top : PlainTop) → i < length tops → top ≡ get_or tops i top →
      first_top (drop i tops)
      ≡ cond (line_holds top.line content host) (Some (top.kind, top.priority)) (first_top (drop (i + 1) tops))
  tops_from tops i top within is = ap first_top (items_from tops i top within is)
