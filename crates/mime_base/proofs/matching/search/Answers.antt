use Rattle.std.proofs.Common.{◌≡◌, ◌∷◌, length, sym, ap, ◌∙◌, arith}
use Rattle.mime_base.specs.Matching.Elements.{elements}
use Rattle.mime_base.specs.Matching.Folding.{compared}
use Rattle.mime_base.proofs.MatchingLemmas.Costs.{once-paid}
use Rattle.mime_base.proofs.MatchingLemmas.Counts.{rule_tests-compared}
use Rattle.mime_base.proofs.MatchingLemmas.Endings.{refused-first, star-least, star-matches, star-tests}
use Rattle.mime_base.proofs.MatchingLemmas.Matches.{rule_matches-compared}
use Rattle.mime_base.proofs.matching.search.Goals as goal

pub returns-then-begins_otherwise : goal.returns-then-begins_otherwise
returns-then-begins_otherwise c =
    let first = refused-first (elements (compared c.args.cased c.args.pattern.now)) (compared c.args.cased c.args.name.now)
    (c.begins_otherwise.ensures.refused c.if-begins_otherwise.true) in
    let tests = rule_tests-compared c.args.pattern.now c.args.cased c.args.name.now ∙ first.1 in
    record {
      found = sym (rule_matches-compared c.args.pattern.now c.args.cased c.args.name.now ∙ first.0);
      tests = omega (arith, tests);
      least = omega arith;
      most = once-paid (length c.args.pattern.now) (length c.args.name.now) 1
          (omega (arith, c.begins_otherwise.ensures.some c.if-begins_otherwise.true));
    }

pub returns-then-is_literal_text : goal.returns-then-is_literal_text
returns-then-is_literal_text c =
    let is : c.args.pattern.now ≡ 42 ∷ c.in-Some.ending.now =
    c.in-Some.ensures.cases.0 ∙ ap (λ b. b ∷ c.in-Some.ending.now) c.if-first-eq42.true in
    let tests = star-tests c.args.pattern.now c.args.cased c.args.name.now c.in-Some.ending.now is in
    let paid = once-paid (length c.args.pattern.now) (length c.args.name.now) c.try_ending.result.tests
    (omega (arith, c.try_ending.ensures.most, ap length is)) in
    let least = star-least c.args.pattern.now c.args.cased c.args.name.now c.in-Some.ending.now is c.try_ending.result.found in
    record {
      found = c.try_ending.ensures.found ∙ sym (star-matches c.args.pattern.now c.args.cased c.args.name.now c.in-Some.ending.now is);
      tests = omega (arith, tests, c.try_ending.ensures.tests);
      least = rw least c.try_ending.ensures.least;
      most = paid;
    }
