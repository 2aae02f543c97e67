use Rattle.std.proofs.Common.{◌≡◌, ◌++◌, ◌≤◌, length, drop}
use Rattle.mime_load.specs.Lent.{sections_over}
use Rattle.mime_lookup.specs.TopLines.{lent_top, plain_tops, top_lines}
use Rattle.mime_lookup.proofs.indexed.magic_index.MagicIndex.new.Given as goal

abbrev pub invariant-loop-section : goal.invariant-loop-section
invariant-loop-section l = record {
  within : l.from ≤ length l.lines.items;
  left :
      plain_tops (lent_top l.lines.items) l.tops.items
      ++ top_lines (sections_over (drop l.section-index l.section-items) (drop l.from l.lines.items))
      ≡ top_lines (sections_over l.section-items l.lines.items);
}
