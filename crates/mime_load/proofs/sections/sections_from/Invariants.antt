use Rattle.std.proofs.Common.{◌≡◌, length}
use Rattle.mime_load.specs.Adding.{ReadsSections}
use Rattle.mime_load.specs.Taking.{PaysWide}
use Rattle.mime_load.proofs.sections.sections_from.Given as goal

abbrev pub invariant-loop-i : goal.invariant-loop-i
invariant-loop-i l = record {
  reads : ReadsSections l.source.counted.now l.first l.sections.items l.lines.items l.initial.taking l.taking;
  count : length l.sections.items ≡ l.i;
  wide : PaysWide 0 l.initial.taking l.taking;
}
