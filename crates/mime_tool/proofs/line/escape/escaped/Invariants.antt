use Rattle.std.proofs.Common.{◌≡◌, take}
use Rattle.mime_tool.specs.Output.{escaped}
use Rattle.mime_tool.proofs.line.escape.escaped.Given as goal

abbrev pub invariant-loop-byte : goal.invariant-loop-byte
invariant-loop-byte l = l.escaped.items ≡ escaped (take l.byte-index l.bytes)
