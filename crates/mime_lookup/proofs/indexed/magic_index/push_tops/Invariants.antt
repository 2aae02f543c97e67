use Rattle.std.proofs.Common.{◌≡◌, ◌++◌, ◌-◌, ◌≤◌, length, take, drop}
use Rattle.mime_load.specs.Lent.{lent_forest}
use Rattle.mime_lookup.specs.TopLines.{lent_top, plain_tops, tops_of}
use Rattle.mime_lookup.proofs.indexed.magic_index.push_tops.Given as goal

abbrev pub invariant-loop-rest : goal.invariant-loop-rest
invariant-loop-rest l = record {
  short : length l.rest ≤ l.until;
  is : l.rest ≡ take (length l.rest) (drop (l.until - length l.rest) l.lines);
  left :
      plain_tops (lent_top l.lines) l.tops.items
      ++ tops_of (record { priority = l.section.priority; kind = l.section.kind.now; lines = lent_forest l.rest })
      ≡ plain_tops (lent_top l.lines) l.initial.tops.items
      ++ tops_of (record { priority = l.section.priority; kind = l.section.kind.now; lines = lent_forest (take (l.until - l.from) (drop l.from l.lines)) });
}

abbrev pub decreases-loop-rest : goal.decreases-loop-rest
decreases-loop-rest l = length l.rest
