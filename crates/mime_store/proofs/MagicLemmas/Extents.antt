-- How far lines and sections of magic look at a content.
use Rattle.std.proofs.Common.{◌≡◌, ℕ, zero, suc, ◌+◌, ◌<◌, max, true, ◌&&◌, List, [], ◌∷◌, ◌++◌, length, take, get_or}
use Rattle.std.proofs.Common.{ap, ◌∙◌, arith}
use Rattle.std.proofs.lemmas.Bool.{and_parts, ltb-true}
use Rattle.mime_base.specs.Magic.Extent.{forest_extent, sections_extent}
use Rattle.mime_base.specs.Magic.{Forest, PlainMatchlet, PlainSection, are_allowed, are_allowed_sections, bare}
use Rattle.mime_base.specs.Magic.{forest_of, is_allowed, line, plain_matchlet, plain_matchlets, plain_section}
use Rattle.mime_base.specs.Magic.{plain_sections}
use Rattle.mime_base.specs.declared.magic.matchlet.Matchlet.{Matchlet}
use Rattle.mime_base.specs.declared.magic.Section.{Section}
use Rattle.mime_store.specs.Lines.{matchlet_extent}
use Rattle.mime_store.proofs.ListLemmas.Loops.{views_more}

-- the extent of one line more
extent-push : (ms : List PlainMatchlet) (m : PlainMatchlet)
    → forest_extent (forest_of (ms ++ m ∷ [])) ≡ max (matchlet_extent m) (forest_extent (forest_of ms))
extent-push [] m = omega arith
extent-push (x ∷ ms) m = omega (arith, extent-push ms m)

-- the extent of one line more
pub extent-more : (ms : List Matchlet) (i : ℕ) (m : Matchlet) → i < length ms → m ≡ get_or ms i m
    → forest_extent (forest_of (plain_matchlets (take (i + 1) ms)))
    ≡ max (matchlet_extent (plain_matchlet m)) (forest_extent (forest_of (plain_matchlets (take i ms))))
extent-more ms i m lt e =
    ap (λ xs. forest_extent (forest_of xs)) (views_more plain_matchlet ms i m lt e)
    ∙ extent-push (plain_matchlets (take i ms)) (plain_matchlet m)

-- the extent of one section more
extent_of-push : (sections : List PlainSection) (section : PlainSection)
    → sections_extent (sections ++ section ∷ []) ≡ max (forest_extent section.lines) (sections_extent sections)
extent_of-push [] section = omega arith
extent_of-push (x ∷ sections) section = omega (arith, extent_of-push sections section)

-- the extent of one section more
pub extent_of-more : (sections : List Section) (i : ℕ) (section : Section) → i < length sections → section ≡ get_or sections i section
    → sections_extent (plain_sections (take (i + 1) sections))
    ≡ max (forest_extent (plain_section section).lines) (sections_extent (plain_sections (take i sections)))
extent_of-more sections i section lt e =
    ap sections_extent (views_more plain_section sections i section lt e)
    ∙ extent_of-push (plain_sections (take i sections)) (plain_section section)

-- allowed lines look less than 2 ^ 32 bytes far
allowed_extent : (levels : ℕ) (lines : Forest) → are_allowed levels lines ≡ true → forest_extent lines < 4294967296
allowed_extent levels bare all = omega arith
allowed_extent zero (line own children rest) all = absurd (cc)
allowed_extent (suc levels) (line own children rest) all =
    let both = and_parts (is_allowed own && are_allowed levels children) (are_allowed (suc levels) rest) all in
    let here = and_parts (is_allowed own) (are_allowed levels children) both.0 in
    let first = and_parts _ _ (and_parts _ _ (and_parts _ _ here.0).0).0 in
    let small = ltb-true (own.start + own.range + length own.value) 4294967296 first.0 in
    omega (arith, small, allowed_extent levels children here.1, allowed_extent (suc levels) rest both.1)

-- the extent of allowed sections is a number of 32 bits
pub allowed_extents : (sections : List PlainSection) → are_allowed_sections sections ≡ true → sections_extent sections < 4294967296
allowed_extents [] all = omega arith
allowed_extents (section ∷ sections) all =
    let both = and_parts (are_allowed 64 section.lines) _ all in
    omega (arith, allowed_extent 64 section.lines both.0, allowed_extents sections both.1)
