use Rattle.std.proofs.Common.{◌≡◌, ◌+◌, ◌≤◌, length}
use Rattle.mime_base.specs.Matching.Count.{has_star}
use Rattle.mime_base.specs.Matching.Elements.{elements, HasNoEnd}
use Rattle.mime_base.specs.Matching.Folding.{compared}
use Rattle.mime_base.proofs.matching.count_to_end.Given as goal

abbrev pub invariant-loop-first : goal.invariant-loop-first
invariant-loop-first l = record {
  endless : HasNoEnd l.endless l.rest;
  star : has_star (elements (compared l.cased l.text)) ≡ has_star (elements (compared l.cased l.rest));
  count : length (elements (compared l.cased l.text)) ≡ l.size + length (elements (compared l.cased l.rest));
  room : l.size + length l.rest ≤ length l.text;
}

abbrev pub decreases-loop-first : goal.decreases-loop-first
decreases-loop-first l = length l.rest
