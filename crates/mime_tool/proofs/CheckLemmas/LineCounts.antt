-- How many lines there are, in the steps of a pass over sections.
use Rattle.std.proofs.Common.{◌≡◌, ◌∙◌, ◌+◌, ◌-◌, ◌<◌, ◌≤◌, ℕ, zero, suc, min, List, [], ◌∷◌, ap, arith, drop, get_or, length, refl, sym, take, length-drop, vec_len}
use Rattle.std.proofs.lemmas.List.{length-take}
use Rattle.std.proofs.lemmas.List.Sums.{sum_by-cons}
use Rattle.mime_base.specs.Format.Magic.{line_count}
use Rattle.mime_base.specs.Format.Packed.{matchlet_count}
use Rattle.mime_base.specs.Magic.{PlainSection}
use Rattle.mime_load.specs.Lent.{forest_within, lent_forest, plain_magic, sections_over}
use Rattle.mime_load.specs.declared.line.LentLine.{LentLine}
use Rattle.mime_load.specs.declared.magic.LentMagic.{LentMagic}
use Rattle.mime_load.specs.declared.section.LentSection.{LentSection}
use Rattle.mime_load.proofs.FlatLines.{lent_forest-within, sections_over-from}

-- a forest has the lines that it is made of
line_count-within : (room : ℕ) (lines : List LentLine) → length lines ≤ room → line_count (forest_within room lines) ≡ length lines
line_count-within zero [] within = refl
line_count-within zero (m ∷ lines) within = absurd (omega arith)
line_count-within (suc room) [] within = refl
line_count-within (suc room) (m ∷ lines) within =
    let front = line_count-within room (take m.below lines) (omega (arith, length-take m.below lines)) in
    let back = line_count-within room (drop m.below lines) (omega (arith, length-drop m.below lines)) in
    omega (arith, front, back, length-take m.below lines, length-drop m.below lines)

-- lines as a forest are as many
line_count-lines : (lines : List LentLine) → line_count (lent_forest lines) ≡ length lines
line_count-lines lines =
    ap line_count (sym (lent_forest-within (length lines) lines (omega arith))) ∙ line_count-within (length lines) lines (omega arith)

-- the sections from one on, of which the first has so many of the lines that are left
pub matchlet_count-from : (sections : List LentSection) (lines : List LentLine) (i from size room : ℕ) (d : LentSection) →
    i < length sections → size ≡ min (get_or sections i d).lines room → room ≡ length lines - from →
    matchlet_count (sections_over (drop i sections) (drop from lines))
    ≡ size + matchlet_count (sections_over (drop (i + 1) sections) (drop (from + size) lines))
matchlet_count-from sections lines i from size room d within is left =
    let s = get_or sections i d in
    let part = take (from + size - from) (drop from lines) in
    let first : PlainSection = record { priority = s.priority; kind = s.kind.now; lines = lent_forest part } in
    let rest = sections_over (drop (i + 1) sections) (drop (from + size) lines) in
    let many : line_count (lent_forest part) ≡ size =
    omega (arith, line_count-lines part, length-take (from + size - from) (drop from lines), length-drop from lines, is, left) in
    ap matchlet_count (sections_over-from sections lines i from size room d within is left)
    ∙ sum_by-cons (λ (p : PlainSection). line_count p.lines) first rest
    ∙ ap (λ n. n + matchlet_count rest) many

-- there are as many sections as heads of sections
length-sections_over : (sections : List LentSection) (lines : List LentLine) → length (sections_over sections lines) ≡ length sections
length-sections_over [] lines = refl
length-sections_over (s ∷ sections) lines = omega (arith, length-sections_over sections (drop s.lines lines))

-- the sections of a cache are as many as their plain values
pub length-sections : (magic : LentMagic) → vec_len magic.sections ≡ length (plain_magic magic)
length-sections magic = omega (arith, magic.sections.ok.0, length-sections_over magic.sections.items magic.lines.items)
