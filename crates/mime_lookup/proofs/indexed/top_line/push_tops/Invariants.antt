use Rattle.std.proofs.Common.{◌≡◌, ◌++◌, drop, max, take}
use Rattle.mime_base.specs.Magic.Extent.{forest_extent}
use Rattle.mime_base.specs.Magic.{forest_of, plain_matchlets}
use Rattle.mime_lookup.specs.TopLines.{lent_matchlet, plain_tops, tops_of}
use Rattle.mime_lookup.proofs.indexed.top_line.push_tops.Given as goal

abbrev pub invariant-loop-line : goal.invariant-loop-line
invariant-loop-line l = record {
  tops : plain_tops lent_matchlet l.tops.items
      ≡ plain_tops lent_matchlet l.initial.tops.items
      ++ tops_of (record { priority = l.priority; kind = l.kind; lines = forest_of (plain_matchlets (take l.line-index l.line-items)) });
  extent : max l.extent (forest_extent (forest_of (plain_matchlets (drop l.line-index l.line-items))))
      ≡ forest_extent (forest_of (plain_matchlets l.line-items));
}
