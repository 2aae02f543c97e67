use Rattle.std.proofs.Common.{◌≡◌, ◌+◌, take}
use Rattle.mime_base.specs.Database.PlainPairs.{plain_icons}
use Rattle.mime_base.specs.Format.Room.{pairs_room}
use Rattle.mime_store.proofs.bound.take_icons.Given as goal

abbrev pub invariant-loop-icon : goal.invariant-loop-icon
invariant-loop-icon l = l.rest + pairs_room (plain_icons (take l.icon-index l.icons)) ≡ l.left
