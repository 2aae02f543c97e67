use Rattle.std.proofs.Common.{◌≡◌, ◌*◌, length, take, map, sum_by}
use Rattle.mime_base.specs.Magic.{plain_matchlet}
use Rattle.mime_store.specs.Lines.{IsLineRecord, matchlet_parts_room}
use Rattle.mime_store.specs.Lists.{IsRow, RecordsIn}
use Rattle.mime_store.specs.Written.{Grew}
use Rattle.mime_store.proofs.magic.+lines.Given as goal

abbrev pub invariant-write_lines-loop-line : goal.invariant-write_lines-loop-line
invariant-write_lines-loop-line l = record {
  grew : Grew l.fn.out.items l.out.items (sum_by matchlet_parts_room (map plain_matchlet (take l.line-index l.lines)));
  gathered : RecordsIn (IsRow IsLineRecord 8 l.out.items) l.records.items (map plain_matchlet (take l.line-index l.lines));
  count : length l.records.items ≡ 8 * l.line-index;
}
