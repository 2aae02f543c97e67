use Rattle.std.proofs.Common.{◌-◌, [], length, drop, sym, arith}
use Rattle.std.proofs.lemmas.Slice.{between_to_end}
use Rattle.mime_base.specs.Matching.Attempt.{Goes}
use Rattle.mime_base.specs.Matching.Elements.{elements}
use Rattle.mime_base.specs.Matching.Folding.{compared}
use Rattle.mime_base.specs.declared.matching.attempt.Halt.TheVariants.{BothEnd, Refused}
use Rattle.mime_base.proofs.MatchingLemmas.Attempts.{goes-owed}
use Rattle.mime_base.proofs.MatchingLemmas.Endings.{refused-unended}
use Rattle.mime_base.proofs.MatchingLemmas.Lasts.{end-found, end-owed, end-tests, end-unfound, short-matches, short-tests, singles-size}
use Rattle.mime_base.proofs.MatchingLemmas.Places.{singles-length}
use Rattle.mime_base.proofs.matching.try_at_end.Goals as goal

pub returns-then-name-size-clause-found : goal.returns-then-name-size-clause-found
returns-then-name-size-clause-found c =
    sym (short-matches c.args.cased _ c.args.name.now c.args.size c.requires.none c.requires.size c.if-name-size.true)

pub returns-then-name-size-clause-tests : goal.returns-then-name-size-clause-tests
returns-then-name-size-clause-tests c =
    sym (short-tests c.args.cased _ c.args.name.now c.args.size c.requires.none c.requires.size c.if-name-size.true)

pub returns-then-name-size-clause-most : goal.returns-then-name-size-clause-most
returns-then-name-size-clause-most c =
    omega (
      arith,
      singles-length c.args.cased c.args.pattern.now,
      singles-size (elements (compared c.args.cased c.args.pattern.now)) c.requires.none,
      c.requires.size,
      c.if-name-size.true,
    )

pub returns-then-begins_otherwise : goal.returns-then-begins_otherwise
returns-then-begins_otherwise c =
    let start = length c.args.name.now - c.args.size in
    let es = elements (compared c.args.cased c.args.pattern.now) in
    let goes : Goes Refused 0 es (compared c.args.cased (drop start c.args.name.now)) [] =
    rw (between_to_end c.args.name.now start (length c.args.name.now) (omega arith)) at
    (c.begins_otherwise.ensures.refused c.if-begins_otherwise.true) in
    let made = end-tests c.args.cased es c.args.name.now c.args.size c.requires.none c.requires.size (omega arith) 0 [] Refused goes in
    let owed = end-owed c.args.cased es c.args.name.now c.args.size c.requires.none c.requires.size (omega arith) 0 [] Refused goes refused-unended in
    let unfound = end-unfound c.args.cased es c.args.name.now c.args.size c.requires.none c.requires.size (omega arith) 0 [] Refused goes refused-unended in
    record {
      found = sym unfound;
      tests = sym made;
      least = owed;
      most = c.begins_otherwise.ensures.some c.if-begins_otherwise.true;
    }

pub returns-in-BothEnd-clause-found : goal.returns-in-BothEnd-clause-found
returns-in-BothEnd-clause-found c =
    let start = length c.args.name.now - c.args.size in
    let end = between_to_end c.args.name.now start (length c.args.name.now) (omega arith) in
    let goes = rw (end, c.in-BothEnd.is) at c.attempt-last.ensures.goes in
    sym (end-found c.args.cased _ c.args.name.now c.args.size c.requires.none c.requires.size (omega arith) _ _ goes)

pub returns-in-BothEnd-clause-tests : goal.returns-in-BothEnd-clause-tests
returns-in-BothEnd-clause-tests c =
    let start = length c.args.name.now - c.args.size in
    let goes = rw (between_to_end c.args.name.now start (length c.args.name.now) (omega arith)) at c.attempt-last.ensures.goes in
    let made = end-tests c.args.cased _ c.args.name.now c.args.size c.requires.none c.requires.size (omega arith) _ _ _ goes in
    omega (arith, made, c.attempt-last.ensures.tests)

pub returns-in-BothEnd-clause-least : goal.returns-in-BothEnd-clause-least
returns-in-BothEnd-clause-least c =
    let goes = rw c.in-BothEnd.is at c.attempt-last.ensures.goes in
    let tests = rw c.in-BothEnd.is at c.attempt-last.ensures.tests in
    let owed = goes-owed BothEnd c.attempt-last.result.passed (elements (compared c.args.cased c.args.pattern.now)) _
    (elements (compared c.args.cased c.attempt-last.result.after.now)) goes in
    omega (arith, owed, tests)

pub returns-in_default : goal.returns-in_default
returns-in_default c =
    let start = length c.args.name.now - c.args.size in
    let goes = rw (between_to_end c.args.name.now start (length c.args.name.now) (omega arith)) at c.attempt-last.ensures.goes in
    let made = end-tests c.args.cased _ c.args.name.now c.args.size c.requires.none c.requires.size (omega arith) _ _ _ goes in
    let owed = end-owed c.args.cased _ c.args.name.now c.args.size c.requires.none c.requires.size (omega arith) _ _ _ goes
    c.in_default.not-BothEnd in
    let unfound = end-unfound c.args.cased _ c.args.name.now c.args.size c.requires.none c.requires.size (omega arith) _ _ _ goes
    c.in_default.not-BothEnd in
    record {
      found = sym unfound;
      tests = omega (arith, made, c.attempt-last.ensures.tests);
      least = omega (arith, owed, c.attempt-last.ensures.tests);
      most = c.attempt-last.ensures.most;
    }
