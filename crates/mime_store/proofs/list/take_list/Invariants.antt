use Rattle.std.proofs.Common.{◌≡◌, ◌+◌, map, take}
use Rattle.mime_store.specs.Lists.{list_room}
use Rattle.mime_store.proofs.list.take_list.Given as goal

abbrev pub invariant-loop-member : goal.invariant-loop-member
invariant-loop-member g l =
    l.rest + list_room g.row.N g.T.Entry.room (map g.T.Entry.plain (take l.member-index l.members)) ≡ l.left
