use Rattle.std.proofs.Common.{◌≡◌, map, take}
use Rattle.mime_base.specs.Matching.Folding.{folded}
use Rattle.mime_base.proofs.matching.folding.fold.Given as goal

abbrev pub invariant-loop-byte : goal.invariant-loop-byte
invariant-loop-byte l = l.text.items ≡ map folded (take l.byte-index l.bytes)
