use Rattle.std.proofs.Common.{◌≡◌, drop, max, take}
use Rattle.mime_base.specs.Magic.Extent.{sections_extent}
use Rattle.mime_base.specs.Magic.{plain_sections}
use Rattle.mime_lookup.specs.TopLines.{lent_matchlet, plain_tops, top_lines}
use Rattle.mime_lookup.proofs.indexed.top_line.tops_of.Given as goal

abbrev pub invariant-loop-section : goal.invariant-loop-section
invariant-loop-section l = record {
  tops : plain_tops lent_matchlet l.lines.items ≡ top_lines (plain_sections (take l.section-index l.sections));
  extent : max l.extent (sections_extent (plain_sections (drop l.section-index l.sections))) ≡ sections_extent (plain_sections l.sections);
}
