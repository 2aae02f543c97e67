use Rattle.std.proofs.Common.{◌≡◌, ◌*◌, ◌-◌, ◌≤◌, ◌∷◌, length, drop}
use Rattle.mime_base.specs.Matching.Count.{tests_of}
use Rattle.mime_base.specs.Matching.Elements.{any_bytes, elements}
use Rattle.mime_base.specs.Matching.Folding.{compared}
use Rattle.mime_base.specs.Matching.Matches.{matches}
use Rattle.mime_base.specs.Meter.{raised}
use Rattle.mime_base.proofs.matching.slide.Given as goal

abbrev pub invariant-loop-endless : goal.invariant-loop-endless
invariant-loop-endless l = record {
  place : l.start ≤ length l.name;
  same : matches (any_bytes ∷ elements (compared l.cased l.pattern)) (compared l.cased l.name)
      ≡ matches (any_bytes ∷ elements (compared l.cased l.pattern)) (compared l.cased (drop l.start l.name));
  made : raised 0 (tests_of (any_bytes ∷ elements (compared l.cased l.pattern)) (compared l.cased l.name))
      ≡ raised l.tests (tests_of (any_bytes ∷ elements (compared l.cased l.pattern)) (compared l.cased (drop l.start l.name)));
  spent : l.tests ≤ l.start * length l.pattern;
}

abbrev pub decreases-loop-endless : goal.decreases-loop-endless
decreases-loop-endless l = length l.name - l.start
