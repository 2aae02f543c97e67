use Rattle.std.proofs.Common.{map, sum_by, take}
use Rattle.mime_store.specs.Lists.{IsRow, RecordsIn}
use Rattle.mime_store.specs.Written.{Grew}
use Rattle.mime_store.proofs.list.gather.Given as goal

abbrev pub invariant-loop-member : goal.invariant-loop-member
invariant-loop-member g l = record {
  grew : Grew l.fn.out.items l.out.items (sum_by g.T.Entry.room (map g.T.Entry.plain (take l.member-index l.members)));
  gathered : RecordsIn (IsRow g.T.Entry.IsRecord g.row.N l.out.items) l.records.items
      (map g.T.Entry.plain (take l.member-index l.members));
}
