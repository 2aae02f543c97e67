use Rattle.std.proofs.Common.{◌-◌, Some}
use Rattle.mime_base.specs.Magic.Ranges.{PassesWindows}
use Rattle.mime_base.specs.Magic.{line_from}
use Rattle.mime_base.proofs.magic.ranges.value_in_windows.Given as goal

abbrev pub invariant-loop-start : goal.invariant-loop-start
invariant-loop-start l =
    PassesWindows (line_from 0 0 l.word l.value (Some l.mask)) l.host l.content l.fn.start l.start l.end l.fn.meter l.meter

abbrev pub decreases-loop-start : goal.decreases-loop-start
decreases-loop-start l = l.end - l.start
