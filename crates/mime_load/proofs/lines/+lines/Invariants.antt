use Rattle.std.proofs.Common.{◌+◌, ◌*◌}
use Rattle.mime_load.specs.Adding.{AddsLines}
use Rattle.mime_load.specs.Taking.{PaysWide}
use Rattle.mime_load.proofs.lines.+lines.Given as goal

abbrev pub decreases-push_line : goal.decreases-push_line
decreases-push_line l = 2 * l.levels

abbrev pub decreases-push_lines : goal.decreases-push_lines
decreases-push_lines l = 2 * l.levels + 1

abbrev pub invariant-push_lines-loop-i : goal.invariant-push_lines-loop-i
invariant-push_lines-loop-i l = record {
  adds :
      AddsLines l.source.counted.now l.first l.levels l.i l.initial.lines.items l.lines.items l.initial.taking l.taking;
  wide : PaysWide 0 l.initial.taking l.taking;
}
