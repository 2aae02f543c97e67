use Rattle.std.proofs.Common.{◌∷◌, length, drop, sym, ◌∙◌, ap, arith, length-drop, zero-add}
use Rattle.std.proofs.lemmas.List.{drop-map}
use Rattle.std.proofs.lemmas.Slice.{between_to_end}
use Rattle.mime_base.specs.Matching.Count.{tests_of}
use Rattle.mime_base.specs.Matching.Elements.{any_bytes, elements}
use Rattle.mime_base.specs.Matching.Matches.{matches}
use Rattle.mime_base.specs.Matching.Folding.{compared, compared_byte}
use Rattle.mime_base.specs.declared.matching.attempt.Halt.TheVariants.{Star}
use Rattle.mime_base.proofs.MatchingLemmas.Attempts.{goes-decided, goes-owed}
use Rattle.mime_base.proofs.MatchingLemmas.Costs.{star-paid}
use Rattle.mime_base.proofs.MatchingLemmas.Counts.{goes-tests, rule_tests-compared}
use Rattle.mime_base.proofs.MatchingLemmas.Matches.{rule_matches-compared}
use Rattle.mime_base.proofs.MatchingLemmas.Places.{singles-length}
use Rattle.mime_base.proofs.MatchingLemmas.Slides.{answered-none, decided-answer, owed-answer, star-unanswered}
use Rattle.mime_base.proofs.matching.search_by_stars.Goals as goal

pub returns-in-Some-clause-found : goal.returns-in-Some-clause-found
returns-in-Some-clause-found c =
    sym (rule_matches-compared c.args.pattern.now c.args.cased c.args.name.now
    ∙ goes-decided _ _ _ _ _ c.try_front-front.ensures.goes
    ∙ decided-answer _ _ _ _ c.in-Some.ensures)

pub returns-in-Some-clause-tests : goal.returns-in-Some-clause-tests
returns-in-Some-clause-tests c =
    let made = rule_tests-compared c.args.pattern.now c.args.cased c.args.name.now ∙ goes-tests _ _ _ _ _ c.try_front-front.ensures.goes in
    let none = answered-none _ (elements (compared c.args.cased c.try_front-front.result.after.now))
    (drop c.try_front-front.result.passed (compared c.args.cased c.args.name.now)) _ c.in-Some.ensures in
    omega (arith, made, none, c.try_front-front.ensures.tests, c.try_front-front.ensures.most)

pub returns-in-Some-clause-least : goal.returns-in-Some-clause-least
returns-in-Some-clause-least c =
    let owed = goes-owed _ _ _ _ _ c.try_front-front.ensures.goes in
    let least = owed-answer _ (elements (compared c.args.cased c.args.pattern.now))
    (elements (compared c.args.cased c.try_front-front.result.after.now)) _ c.in-Some.ensures in
    omega arith

pub loop-size-init : goal.loop-size-init
loop-size-init c =
    let star = star-unanswered _ c.in_default.ensures in
    let goes = rw star at c.try_front-front.ensures.goes in
    let tests = rw star at c.try_front-front.ensures.tests in
    let start = c.try_front-front.result.passed in
    let left = between_to_end c.args.name.now start (length c.args.name.now) (omega arith) in
    let text = drop-map (compared_byte c.args.cased) start c.args.name.now ∙ ap (compared c.args.cased) (sym left) in
    let paid = simp zero-add at (star-paid (length c.args.pattern.now) (length c.args.name.now) 0 0 c.try_front-front.result.tests start
    (length c.try_front-front.result.after.now) (omega arith) (c.try_front-front.ensures.star star)
    (omega (arith, c.try_front-front.ensures.part.passed))) in
    let owed = goes-owed Star start (elements (compared c.args.cased c.args.pattern.now)) (compared c.args.cased c.args.name.now)
    (elements (compared c.args.cased c.try_front-front.result.after.now)) goes in
    let made = rule_tests-compared c.args.pattern.now c.args.cased c.args.name.now
    ∙ goes-tests Star start _ _ (elements (compared c.args.cased c.try_front-front.result.after.now)) goes in
    let rest = ap (tests_of (any_bytes ∷ elements (compared c.args.cased c.try_front-front.result.after.now))) text in
    record {
      endless = c.try_front-front.ensures.part.no_end;
      same = rule_matches-compared c.args.pattern.now c.args.cased c.args.name.now
          ∙ goes-decided Star start _ _ (elements (compared c.args.cased c.try_front-front.result.after.now)) goes
          ∙ ap (matches (any_bytes ∷ elements (compared c.args.cased c.try_front-front.result.after.now))) text;
      made = omega (arith, made, rest, tests, c.try_front-front.ensures.most);
      spent = rw (left, length-drop start c.args.name.now) (omega arith);
      owed = omega (arith, singles-length c.args.cased c.args.pattern.now);
    }
