use Rattle.std.proofs.Common.{◌≡◌, ◌+◌, ◌≤◌, length}
use Rattle.mime_base.specs.Matching.Elements.{elements, HasNoEnd}
use Rattle.mime_base.specs.Matching.Folding.{compared}
use Rattle.mime_base.proofs.MatchingLemmas.Places.{Reached}
use Rattle.mime_base.proofs.matching.attempt.attempt.Given as goal

abbrev pub invariant-loop-left : goal.invariant-loop-left
invariant-loop-left l = record {
  room : l.passed + length l.pattern ≤ length l.initial.pattern;
  place : l.passed + length l.name ≡ length l.initial.name;
  endless : HasNoEnd l.endless l.pattern;
  reached : Reached (elements (compared l.cased l.initial.pattern)) (compared l.cased l.initial.name) l.passed
      (elements (compared l.cased l.pattern)) (compared l.cased l.name);
}

abbrev pub decreases-loop-left : goal.decreases-loop-left
decreases-loop-left l = length l.pattern
