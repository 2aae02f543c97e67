use Rattle.std.proofs.Common.{◌≡◌, ◌≤◌, max, drop, length}
use Rattle.mime_base.specs.Magic.Extent.{sections_extent}
use Rattle.mime_load.specs.Lent.{plain_magic, sections_over}
use Rattle.mime_load.proofs.extent.magic_extent.Given as goal

abbrev pub invariant-loop-section : goal.invariant-loop-section
invariant-loop-section l = record {
  within : l.from ≤ length l.magic.lines.items;
  left :
      max l.greatest (sections_extent (sections_over (drop l.section-index l.magic.sections.items) (drop l.from l.magic.lines.items)))
      ≡ sections_extent (plain_magic l.magic);
}
