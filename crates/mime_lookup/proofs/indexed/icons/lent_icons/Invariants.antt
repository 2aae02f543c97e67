use Rattle.std.proofs.Common.{◌≡◌, ◌≤◌, length, take}
use Rattle.std.specs.Vec.{vec_capacity}
use Rattle.mime_base.specs.Database.PlainPairs as plain
use Rattle.mime_load.specs.Lent.{plain_pairs}
use Rattle.mime_lookup.proofs.indexed.icons.lent_icons.Given as goal

abbrev pub invariant-loop-icon : goal.invariant-loop-icon
invariant-loop-icon l = record {
  long : length l.lent.items ≡ l.icon-index;
  room : length l.icons ≤ vec_capacity l.lent;
  are : plain_pairs l.lent.items ≡ plain.plain_icons (take l.icon-index l.icons);
}
