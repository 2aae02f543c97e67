use Rattle.std.proofs.Common.{◌≡◌, ◌≤◌, ◌+◌, drop, length}
use Rattle.mime_base.specs.Format.Packed.{matchlet_count}
use Rattle.mime_load.specs.Lent.{plain_magic, sections_over}
use Rattle.mime_tool.proofs.check.counts.line_count_of.Given as goal

abbrev pub invariant-loop-section : goal.invariant-loop-section
invariant-loop-section l = record {
  within : l.count ≤ length l.magic.lines.items;
  left :
      l.count + matchlet_count (sections_over (drop l.section-index l.magic.sections.items) (drop l.count l.magic.lines.items))
      ≡ matchlet_count (plain_magic l.magic);
}
