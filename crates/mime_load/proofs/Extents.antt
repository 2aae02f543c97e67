-- Extents of lines and sections, in the steps of a pass over them.
use Rattle.std.proofs.Common.{◌≡◌, ℕ, zero, suc, ◌+◌, ◌<◌, ◌≤◌, ◌-◌, max, min, List, [], ◌∷◌, ◌++◌, length, get_or, take, drop}
use Rattle.std.proofs.Common.{refl, sym, ap, ◌∙◌, arith, length-drop}
use Rattle.std.proofs.lemmas.List.{drop_more, length-take, take-append-drop}
use Rattle.mime_base.specs.Magic.Extent.{forest_extent, line_extent, sections_extent}
use Rattle.mime_load.specs.Lent.{forest_within, lent_forest, plain_line, sections_over}
use Rattle.mime_load.specs.declared.line.LentLine.{LentLine}
use Rattle.mime_load.specs.declared.section.LentSection.{LentSection}
use Rattle.mime_load.proofs.FlatLines.{lent_forest-within, sections_over-from}

-- the greatest extent of lines, each by itself
abbrev pub greatest_extent : List LentLine → ℕ
greatest_extent [] = 0
greatest_extent (m ∷ lines) = max (line_extent (plain_line m)) (greatest_extent lines)

-- of lines and others it is the greater one
greatest_extent-append : (xs ys : List LentLine) → greatest_extent (xs ++ ys) ≡ max (greatest_extent xs) (greatest_extent ys)
greatest_extent-append [] ys = omega arith
greatest_extent-append (x ∷ xs) ys = omega (arith, greatest_extent-append xs ys)

-- as a forest they have the same
extent-within : (room : ℕ) (lines : List LentLine) → length lines ≤ room → forest_extent (forest_within room lines) ≡ greatest_extent lines
extent-within zero [] within = refl
extent-within zero (m ∷ lines) within = absurd (omega arith)
extent-within (suc room) [] within = refl
extent-within (suc room) (m ∷ lines) within =
    let front = extent-within room (take m.below lines) (omega (arith, length-take m.below lines)) in
    let back = extent-within room (drop m.below lines) (omega (arith, length-drop m.below lines)) in
    let both = greatest_extent-append (take m.below lines) (drop m.below lines) in
    let whole = ap greatest_extent (take-append-drop m.below lines) in
    omega (arith, front, back, both, whole)

-- the extent of the forest of lines
pub forest_extent-lines : (lines : List LentLine) → forest_extent (lent_forest lines) ≡ greatest_extent lines
forest_extent-lines lines =
    ap forest_extent (sym (lent_forest-within (length lines) lines (omega arith))) ∙ extent-within (length lines) lines (omega arith)

-- the lines from one on
pub greatest_extent-from : (lines : List LentLine) (i extent : ℕ) (d : LentLine) → i < length lines →
    extent ≡ line_extent (plain_line (get_or lines i d)) →
    greatest_extent (drop i lines) ≡ max extent (greatest_extent (drop (i + 1) lines))
greatest_extent-from lines i extent d within is =
    ap greatest_extent (drop_more lines i d within) ∙ ap (λ n. max n (greatest_extent (drop (i + 1) lines))) (sym is)

-- the sections from one on, of which the first has the lines up to a place
pub sections_extent-from : (sections : List LentSection) (lines : List LentLine) (i from size room : ℕ) (d : LentSection) →
    i < length sections → size ≡ min (get_or sections i d).lines room → room ≡ length lines - from →
    sections_extent (sections_over (drop i sections) (drop from lines))
    ≡ max (forest_extent (lent_forest (take (from + size - from) (drop from lines))))
    (sections_extent (sections_over (drop (i + 1) sections) (drop (from + size) lines)))
sections_extent-from sections lines i from size room d within is left =
    ap sections_extent (sections_over-from sections lines i from size room d within is left)
