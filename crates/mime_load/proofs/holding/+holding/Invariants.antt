use Rattle.std.proofs.Common.{◌≡◌, ◌+◌, ◌*◌, ◌≤◌, length}
use Rattle.mime_base.specs.Magic.Holds.{some_holds}
use Rattle.mime_base.specs.Magic.WindowBytes.{forest_bytes}
use Rattle.mime_load.specs.Lent.{lent_forest}
use Rattle.mime_load.proofs.holding.+holding.Given as goal

abbrev pub decreases-first_line_matches : goal.decreases-first_line_matches
decreases-first_line_matches l = 2 * length l.lines.now

abbrev pub decreases-some_line_matches : goal.decreases-some_line_matches
decreases-some_line_matches l = 2 * length l.lines.now + 1

abbrev pub invariant-some_line_matches-loop-rest : goal.invariant-some_line_matches-loop-rest
invariant-some_line_matches-loop-rest l = record {
  left : some_holds (lent_forest l.lines) l.content l.fn.host ≡ some_holds (lent_forest l.rest) l.content l.fn.host;
  short : length l.rest ≤ length l.lines;
  nodes : l.meter.nodes ≡ l.initial.meter.nodes;
  bytes :
      l.meter.bytes + forest_bytes (length l.content) (lent_forest l.rest)
      ≤ l.initial.meter.bytes + forest_bytes (length l.content) (lent_forest l.lines);
}

abbrev pub decreases-some_line_matches-loop-rest : goal.decreases-some_line_matches-loop-rest
decreases-some_line_matches-loop-rest l = length l.rest
