use Rattle.std.proofs.Common.{◌≡◌, ◌+◌, take}
use Rattle.mime_base.specs.Format.Room.{lines_room}
use Rattle.mime_base.specs.Magic.{forest_of, plain_matchlets}
use Rattle.mime_store.proofs.room.+rooms.Given as goal

abbrev pub invariant-take_lines-loop-line : goal.invariant-take_lines-loop-line
invariant-take_lines-loop-line l = l.rest + lines_room (forest_of (plain_matchlets (take l.line-index l.lines))) ≡ l.left
