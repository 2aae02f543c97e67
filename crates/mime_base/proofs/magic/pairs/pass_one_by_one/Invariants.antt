use Rattle.std.proofs.Common.{◌≤◌}
use Rattle.mime_base.specs.Magic.Pairs.{PassesPairs}
use Rattle.mime_base.proofs.magic.pairs.pass_one_by_one.Given as goal

abbrev pub invariant-loop-length : goal.invariant-loop-length
invariant-loop-length l = record {
  passed : PassesPairs l.first l.second l.bytes l.length l.firsts;
  few : l.firsts ≤ l.length;
}
