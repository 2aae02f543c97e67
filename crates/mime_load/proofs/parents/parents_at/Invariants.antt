use Rattle.std.proofs.Common.{◌≡◌, ◌+◌, ◌*◌, length}
use Rattle.mime_load.specs.Lent.{plain_pairs}
use Rattle.mime_load.specs.ParentLists.{Entries}
use Rattle.mime_load.specs.Taking.{TakesOnlyRecords}
use Rattle.mime_load.proofs.parents.parents_at.Given as goal

abbrev pub invariant-loop-i : goal.invariant-loop-i
invariant-loop-i l = record {
  entries : Entries l.source.counted.now (l.start + 4) l.i l.previous (plain_pairs l.pairs.items);
  records : l.taking.records + 4 * length l.pairs.items ≡ l.initial.taking.records;
  takes : TakesOnlyRecords (2 * l.i) l.i l.initial.taking l.taking;
}
