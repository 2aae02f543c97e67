use Rattle.std.proofs.Common.{◌≡◌, ◌+◌, ◌*◌, ◌≤◌, ◌∷◌, length}
use Rattle.mime_base.specs.Matching.Count.{rule_tests, tests_of}
use Rattle.mime_base.specs.Matching.Elements.{any_bytes, elements, singles, HasNoEnd}
use Rattle.mime_base.specs.Matching.Folding.{compared}
use Rattle.mime_base.specs.Matching.Matches.{matches, rule_matches}
use Rattle.mime_base.specs.Meter.{raised}
use Rattle.mime_base.proofs.matching.search_by_stars.Given as goal

abbrev pub invariant-loop-size : goal.invariant-loop-size
invariant-loop-size l = record {
  endless : HasNoEnd l.endless l.after;
  same : rule_matches l.pattern l.cased l.name ≡ matches (any_bytes ∷ elements (compared l.cased l.after)) (compared l.cased l.left);
  made : raised 0 (rule_tests l.pattern l.cased l.name)
      ≡ raised l.tests (tests_of (any_bytes ∷ elements (compared l.cased l.after)) (compared l.cased l.left));
  spent : l.tests + length l.after * (length l.left + 1) ≤ length l.pattern * (length l.name + 1);
  owed : singles (elements (compared l.cased l.pattern)) ≤ raised l.tests (singles (elements (compared l.cased l.after)));
}

abbrev pub decreases-loop-size : goal.decreases-loop-size
decreases-loop-size l = length l.after
