use Rattle.std.proofs.Common.{◌≡◌, ◌+◌, ◌≤◌, length, drop}
use Rattle.mime_base.specs.Magic.Holds.{some_holds}
use Rattle.mime_base.specs.Magic.WindowBytes.{forest_bytes}
use Rattle.mime_base.specs.Magic.{forest_of, plain_matchlets}
use Rattle.mime_base.proofs.magic.holding.+holding.Given as goal

abbrev pub invariant-some_line_matches-loop-line : goal.invariant-some_line_matches-loop-line
invariant-some_line_matches-loop-line l = record {
  left :
      some_holds (forest_of (plain_matchlets l.lines)) l.content l.fn.host
      ≡ some_holds (forest_of (plain_matchlets (drop l.line-index l.lines))) l.content l.fn.host;
  nodes : l.meter.nodes ≡ l.initial.meter.nodes;
  rises : l.initial.meter.bytes ≤ l.meter.bytes;
  bytes :
      l.meter.bytes + forest_bytes (length l.content) (forest_of (plain_matchlets (drop l.line-index l.lines)))
      ≤ l.initial.meter.bytes + forest_bytes (length l.content) (forest_of (plain_matchlets l.lines));
}
