-- Lines one after the other, as a forest and back.
use Rattle.std.proofs.Common.{◌≡◌, ℕ, zero, suc, ◌+◌, ◌-◌, ◌≤◌, ◌<◌, min, List, [], ◌∷◌, ◌++◌, length, get_or, map, take, drop}
use Rattle.std.proofs.Common.{refl, ap, ap₂, ◌∙◌, sym, arith, length-append, length-drop}
use Rattle.std.proofs.Math.Seq.{drop-append_seam, take-append_seam}
use Rattle.std.proofs.lemmas.List.{drop-drop, drop-map, drop_min, drop_more, length-take, take-map, take_min}
use Rattle.std.proofs.lemmas.List.Concat.{flat_map-cons}
use Rattle.std.specs.List.{flat_map}
use Rattle.mime_base.specs.Format.Magic.{line_count}
use Rattle.mime_base.specs.Magic.{Forest, PlainLine, PlainSection, bare, line}
use Rattle.mime_load.specs.Adding.{AreSections, flat, head_of, plain_entry, plain_head}
use Rattle.mime_load.specs.Lent.{forest_within, lent_forest, plain_line, sections_over}
use Rattle.mime_load.specs.declared.line.LentLine.{LentLine}
use Rattle.mime_load.specs.declared.section.LentSection.{LentSection}

-- a part is no longer than the whole
short_take : (n room : ℕ) (lines : List LentLine) → length lines ≤ room → length (take n lines) ≤ room
short_take n room lines short = omega (arith, length-take n lines, short)

-- nor is what is left of it
short_drop : (n room : ℕ) (lines : List LentLine) → length lines ≤ room → length (drop n lines) ≤ room
short_drop n room lines short = omega (arith, length-drop n lines, short)

-- more room makes no difference
any_room : (r s : ℕ) (lines : List LentLine) → length lines ≤ r → length lines ≤ s → forest_within r lines ≡ forest_within s lines
any_room zero zero lines within inside = refl
any_room zero (suc s) [] within inside = refl
any_room zero (suc s) (m ∷ lines) within inside = absurd (omega arith)
any_room (suc r) zero [] within inside = refl
any_room (suc r) zero (m ∷ lines) within inside = absurd (omega arith)
any_room (suc r) (suc s) [] within inside = refl
any_room (suc r) (suc s) (m ∷ lines) within inside =
    ap₂ (line (plain_line m))
    (any_room r s (take m.below lines) (short_take m.below r lines (omega arith)) (short_take m.below s lines (omega arith)))
    (any_room r s (drop m.below lines) (short_drop m.below r lines (omega arith)) (short_drop m.below s lines (omega arith)))

-- in any room that is enough they are the forest
pub lent_forest-within : (room : ℕ) (lines : List LentLine) → length lines ≤ room → forest_within room lines ≡ lent_forest lines
unfolding lent_forest
lent_forest-within room lines within = any_room room (length lines) lines within (omega arith)

-- no lines
pub lent_forest-none : lent_forest [] ≡ bare
unfolding lent_forest
lent_forest-none = refl

-- the first line, those below it and those behind them
pub lent_forest-line : (m : LentLine) (lines : List LentLine) → lent_forest (m ∷ lines)
    ≡ line (plain_line m) (lent_forest (take m.below lines)) (lent_forest (drop m.below lines))
lent_forest-line m lines =
    sym (lent_forest-within (suc (length lines)) (m ∷ lines) (omega arith))
    ∙ ap₂ (line (plain_line m)) (lent_forest-within (length lines) (take m.below lines) (short_take m.below (length lines) lines (omega arith)))
    (lent_forest-within (length lines) (drop m.below lines) (short_drop m.below (length lines) lines (omega arith)))

-- a forest has as many entries as lines
pub length-flat : (f : Forest) → length (flat f) ≡ line_count f
length-flat bare = refl
length-flat (line own children rest) =
    omega (arith, length-append (flat children) (flat rest), length-flat children, length-flat rest)

-- the lines of a forest and others after them: the first lines are the forest's
taken_entries : (n : ℕ) (lines : List LentLine) (f : Forest) (more : List (PlainLine × ℕ)) → n ≡ line_count f
    → map plain_entry lines ≡ flat f ++ more → map plain_entry (take n lines) ≡ flat f
taken_entries n lines f more size are =
    let long : n ≡ length (flat f) = size ∙ sym (length-flat f) in
    sym (take-map plain_entry n lines) ∙ ap₂ take long are ∙ take-append_seam (flat f) more

-- and those behind them are the others
left_entries : (n : ℕ) (lines : List LentLine) (f : Forest) (more : List (PlainLine × ℕ)) → n ≡ line_count f
    → map plain_entry lines ≡ flat f ++ more → map plain_entry (drop n lines) ≡ more
left_entries n lines f more size are =
    let long : n ≡ length (flat f) = size ∙ sym (length-flat f) in
    sym (drop-map plain_entry n lines) ∙ ap₂ drop long are ∙ drop-append_seam (flat f) more

-- the lines of a forest are that forest
pub lent_forest-flat : (f : Forest) (lines : List LentLine) → map plain_entry lines ≡ flat f → lent_forest lines ≡ f
lent_forest-flat bare [] are = lent_forest-none
lent_forest-flat bare (m ∷ lines) are = absurd (omega (arith, ap (λ (es : List (PlainLine × ℕ)). length es) are))
lent_forest-flat (line own children rest) [] are = absurd (omega (arith, ap (λ (es : List (PlainLine × ℕ)). length es) are))
lent_forest-flat (line own children rest) (m ∷ lines) are =
    let same : plain_line m ≡ own = ap (λ (es : List (PlainLine × ℕ)). (get_or es 0 (own, 0)).0) are in
    let below : m.below ≡ line_count children = ap (λ (es : List (PlainLine × ℕ)). (get_or es 0 (own, 0)).1) are in
    let after : map plain_entry lines ≡ flat children ++ flat rest = ap (λ (es : List (PlainLine × ℕ)). drop 1 es) are in
    lent_forest-line m lines
    ∙ ap (λ (l : PlainLine). line l (lent_forest (take m.below lines)) (lent_forest (drop m.below lines))) same
    ∙ ap₂ (line own) (lent_forest-flat children (take m.below lines) (taken_entries m.below lines children (flat rest) below after))
    (lent_forest-flat rest (drop m.below lines) (left_entries m.below lines children (flat rest) below after))

-- sections with their lines are these sections
pub sections_over-flat : (sections : List LentSection) (lines : List LentLine) (plain : List PlainSection) → AreSections sections lines plain
    → sections_over sections lines ≡ plain
sections_over-flat [] lines [] are = refl
sections_over-flat [] lines (p ∷ plain) are = absurd (omega (arith, ap (λ (hs : List (ℕ × List ℕ × ℕ)). length hs) are.heads))
sections_over-flat (s ∷ sections) lines [] are = absurd (omega (arith, ap (λ (hs : List (ℕ × List ℕ × ℕ)). length hs) are.heads))
sections_over-flat (s ∷ sections) lines (p ∷ plain) are =
    let head : plain_head s ≡ head_of p = ap (λ (hs : List (ℕ × List ℕ × ℕ)). get_or hs 0 (plain_head s)) are.heads in
    let size : s.lines ≡ line_count p.lines = ap (λ (h : ℕ × List ℕ × ℕ). h.2) head in
    let all : map plain_entry lines ≡ flat p.lines ++ flat_map (λ q. flat q.lines) plain =
    are.flat_lines ∙ flat_map-cons (λ (q : PlainSection). flat q.lines) p plain in
    let forest : lent_forest (take s.lines lines) ≡ p.lines =
    lent_forest-flat p.lines (take s.lines lines) (taken_entries s.lines lines p.lines (flat_map (λ q. flat q.lines) plain) size all) in
    let here : record { priority = s.priority; kind = s.kind.now; lines = lent_forest (take s.lines lines) } ≡ p =
    of_parts (ap (λ (h : ℕ × List ℕ × ℕ). h.0) head) (ap (λ (h : ℕ × List ℕ × ℕ). h.1) head) forest in
    ap₂ (λ (q : PlainSection) (qs : List PlainSection). q ∷ qs) here
    (sections_over-flat sections (drop s.lines lines) plain (record {
      heads = ap (λ (hs : List (ℕ × List ℕ × ℕ)). drop 1 hs) are.heads;
      flat_lines = left_entries s.lines lines p.lines (flat_map (λ q. flat q.lines) plain) size all;
    }))
  where
    -- a section is its parts
    of_parts : {priority : ℕ} {kind : List ℕ} {lines : Forest} → priority ≡ p.priority → kind ≡ p.kind → lines ≡ p.lines
        → record { priority = priority; kind = kind; lines = lines } ≡ p
    of_parts ep ek el = rw (ep, ek, el) refl

-- the sections from one on, of which the first has the lines up to a place
pub sections_over-from : (sections : List LentSection) (lines : List LentLine) (i from size room : ℕ) (d : LentSection) →
    i < length sections → size ≡ min (get_or sections i d).lines room → room ≡ length lines - from →
    sections_over (drop i sections) (drop from lines)
    ≡ record {
      priority = (get_or sections i d).priority;
      kind = (get_or sections i d).kind.now;
      lines = lent_forest (take (from + size - from) (drop from lines));
    } ∷ sections_over (drop (i + 1) sections) (drop (from + size) lines)
sections_over-from sections lines i from size room d within is left =
    let s = get_or sections i d in
    let rest = drop from lines in
    let many : from + size - from ≡ min s.lines (length rest) = omega (arith, is, left, length-drop from lines) in
    let same : size ≡ min s.lines (length rest) = omega (arith, is, left, length-drop from lines) in
    let front : take s.lines rest ≡ take (from + size - from) rest = sym (take_min s.lines rest) ∙ ap (λ n. take n rest) (sym many) in
    let back : drop s.lines rest ≡ drop (from + size) lines =
    sym (drop_min s.lines rest) ∙ ap (λ n. drop n rest) (sym same) ∙ drop-drop size from lines in
    ap (λ ss. sections_over ss rest) (drop_more sections i d within)
    ∙ ap₂ (λ xs ys. record { priority = s.priority; kind = s.kind.now; lines = lent_forest xs }
    ∷ sections_over (drop (i + 1) sections) ys) front back
