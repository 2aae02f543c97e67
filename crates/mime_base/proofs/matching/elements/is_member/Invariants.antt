use Rattle.std.proofs.Common.{◌≡◌, length}
use Rattle.mime_base.specs.Matching.Elements.{in_ranges, ranges}
use Rattle.mime_base.specs.Matching.Folding.{compared}
use Rattle.mime_base.proofs.matching.elements.is_member.Given as goal

abbrev pub invariant-loop-range : goal.invariant-loop-range
invariant-loop-range l =
    in_ranges (ranges (compared l.cased l.members)) l.byte ≡ in_ranges (ranges (compared l.cased l.initial.members)) l.byte

abbrev pub decreases-loop-range : goal.decreases-loop-range
decreases-loop-range l = length l.members
