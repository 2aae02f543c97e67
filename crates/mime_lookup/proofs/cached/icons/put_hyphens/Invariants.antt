use Rattle.std.proofs.Common.{◌≡◌, ◌++◌, drop, map, take}
use Rattle.mime_lookup.specs.Icons.{hyphen_for_slash}
use Rattle.mime_lookup.proofs.cached.icons.put_hyphens.Given as goal

abbrev pub invariant-loop-byte : goal.invariant-loop-byte
invariant-loop-byte l = l.name ≡ map hyphen_for_slash (take l.byte-index l.initial.name) ++ drop l.byte-index l.initial.name
