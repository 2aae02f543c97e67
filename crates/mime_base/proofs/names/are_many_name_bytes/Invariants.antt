use Rattle.std.proofs.Common.{◌≡◌, ◌-◌, drop}
use Rattle.std.specs.List.{list_all}
use Rattle.mime_base.specs.Names.{is_name_byte}
use Rattle.mime_base.proofs.names.are_many_name_bytes.Given as goal

-- the bytes from here on are those of a name exactly where all are
abbrev pub invariant-loop-at : goal.invariant-loop-at
invariant-loop-at l = list_all is_name_byte (drop l.at l.bytes) ≡ list_all is_name_byte l.bytes

abbrev pub decreases-loop-at : goal.decreases-loop-at
decreases-loop-at l = l.last - l.at
