-- Extents of lines and sections, in the steps of a pass over them.
use Rattle.std.proofs.Common.{◌≡◌, ℕ, ◌+◌, ◌<◌, max, List, [], ◌∷◌, length, get_or, drop, refl, sym, ap, ◌∙◌, arith}
use Rattle.std.proofs.lemmas.List.{drop_more}
use Rattle.mime_base.specs.Magic.Extent.{forest_extent, line_extent, sections_extent}
use Rattle.mime_base.specs.Magic.{forest_of, plain_matchlet, plain_matchlets, plain_sections}
use Rattle.mime_base.specs.declared.magic.matchlet.Matchlet.{Matchlet}
use Rattle.mime_base.specs.declared.magic.Section.{Section}

-- the sections from one on
pub sections_extent-from : (sections : List Section) (i : ℕ) (section : Section) → i < length sections →
    section ≡ get_or sections i section →
    sections_extent (plain_sections (drop i sections))
    ≡ max (forest_extent (forest_of (plain_matchlets section.lines.items))) (sections_extent (plain_sections (drop (i + 1) sections)))
sections_extent-from sections i section within is =
    ap (λ ss. sections_extent (plain_sections ss))
    (drop_more sections i section within ∙ ap (λ first. first ∷ drop (i + 1) sections) (sym is))

-- no line reaches nowhere
pub forest_extent-childless : (lines : List Matchlet) → length lines ≡ 0 → forest_extent (forest_of (plain_matchlets lines)) ≡ 0
forest_extent-childless [] none = refl
forest_extent-childless (_ ∷ _) none = absurd (omega arith)

-- the lines from one on
pub forest_extent-from : (lines : List Matchlet) (i : ℕ) (m : Matchlet) → i < length lines → m ≡ get_or lines i m →
    forest_extent (forest_of (plain_matchlets (drop i lines)))
    ≡ max (line_extent (plain_matchlet m).own)
    (max (forest_extent (plain_matchlet m).children) (forest_extent (forest_of (plain_matchlets (drop (i + 1) lines)))))
forest_extent-from lines i m within is =
    ap (λ ms. forest_extent (forest_of (plain_matchlets ms)))
    (drop_more lines i m within ∙ ap (λ first. first ∷ drop (i + 1) lines) (sym is))
