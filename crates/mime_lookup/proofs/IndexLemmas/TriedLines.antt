-- Sections that are tried one by one compare no more of a content than an index of their lines may look at.
use Rattle.std.proofs.Common.{◌≡◌, ℕ, ◌+◌, ◌<◌, ◌≤◌, List, length, get_or, map, drop, ap, arith}
use Rattle.std.proofs.lemmas.List.Sums.{sum_by-append, sum_by-cons}
use Rattle.std.specs.List.{sum_by}
use Rattle.mime_base.specs.Magic.WindowBytes.{forest_bytes}
use Rattle.mime_base.specs.Magic.{Forest, PlainMatchlet, PlainSection, bare, forest_of, line, plain_matchlets, plain_section, plain_sections}
use Rattle.mime_base.specs.declared.magic.Section.{Section}
use Rattle.mime_lookup.proofs.AncestryLemmas.PairSteps.{items_from}
use Rattle.mime_lookup.specs.LineBytes.{index_bytes, top_bytes}
use Rattle.mime_lookup.specs.TopLines.{PlainTop, lines_of, top_lines, tops_of}

module _ (size : ℕ) where
  -- the lines of a section
  lines-bytes : (kind : List ℕ) (priority : ℕ) (lines : Forest) →
      forest_bytes size lines
      ≤ sum_by (top_bytes size) (map (λ (m : PlainMatchlet). record { kind = kind; priority = priority; line = m }) (lines_of lines))
  unfolding forest_bytes
  lines-bytes kind priority bare = omega arith
  lines-bytes kind priority (line own children rest) =
      let top : PlainTop = record { kind = kind; priority = priority; line = record { own = own; children = children } } in
      let others : List PlainTop = map (λ (m : PlainMatchlet). record { kind = kind; priority = priority; line = m }) (lines_of rest) in
      omega (arith, lines-bytes kind priority rest, sum_by-cons (top_bytes size) top others)

  -- what sections compare at most
  abbrev pub sections_bytes : List Section → ℕ
  sections_bytes sections = sum_by (top_bytes size) (top_lines (plain_sections sections))

  -- the first of them, and those after it
  pub sections_bytes-first : (sections : List Section) (i : ℕ) (section : Section) → i < length sections → section ≡ get_or sections i section →
      forest_bytes size (forest_of (plain_matchlets section.lines.items)) + sections_bytes (drop (i + 1) sections)
      ≤ sections_bytes (drop i sections)
  sections_bytes-first sections i section within is =
      let first : PlainSection = plain_section section in
      let rest : List PlainTop = top_lines (plain_sections (drop (i + 1) sections)) in
      omega (
        arith,
        lines-bytes first.kind first.priority first.lines,
        sum_by-append (top_bytes size) (tops_of first) rest,
        ap sections_bytes (items_from sections i section within is),
      )

  -- all of them
  pub sections_bytes-all : (sections : List Section) → sections_bytes sections ≤ index_bytes size (top_lines (plain_sections sections))
  unfolding index_bytes
  sections_bytes-all sections = omega arith
