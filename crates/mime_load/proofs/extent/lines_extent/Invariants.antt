use Rattle.std.proofs.Common.{◌≡◌, max, drop}
use Rattle.mime_load.proofs.Extents.{greatest_extent}
use Rattle.mime_load.proofs.extent.lines_extent.Given as goal

abbrev pub invariant-loop-line : goal.invariant-loop-line
invariant-loop-line l = max l.greatest (greatest_extent (drop l.line-index l.lines)) ≡ greatest_extent l.lines
