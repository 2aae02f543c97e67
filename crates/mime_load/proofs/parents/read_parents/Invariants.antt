use Rattle.std.proofs.Common.{◌≡◌, ◌+◌, length}
use Rattle.mime_load.specs.Lent.{plain_pairs}
use Rattle.mime_load.specs.ParentLists.{Adding}
use Rattle.mime_load.specs.Taking.{OnlyLooks}
use Rattle.mime_load.proofs.parents.read_parents.Given as goal

abbrev pub invariant-loop-i : goal.invariant-loop-i
invariant-loop-i l = record {
  size : length l.pairs.items ≡ length l.initial.pairs.items + l.i;
  adding : Adding l.source.counted.now (l.at + 4) l.i l.kind (plain_pairs l.initial.pairs.items) (plain_pairs l.pairs.items);
  looks : OnlyLooks l.i l.i l.initial.taking l.taking;
}
