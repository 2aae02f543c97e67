use Rattle.std.proofs.Common.{◌≡◌, ◌≤◌, length, take}
use Rattle.std.specs.Vec.{vec_capacity}
use Rattle.mime_base.specs.Database.PlainPairs as plain
use Rattle.mime_load.specs.Lent.{plain_pairs}
use Rattle.mime_lookup.proofs.indexed.icons.lent_pairs.Given as goal

abbrev pub invariant-loop-pair : goal.invariant-loop-pair
invariant-loop-pair l = record {
  long : length l.lent.items ≡ l.pair-index;
  room : length l.pairs ≤ vec_capacity l.lent;
  are : plain_pairs l.lent.items ≡ plain.plain_pairs (take l.pair-index l.pairs);
}
