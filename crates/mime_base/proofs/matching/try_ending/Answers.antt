use Rattle.std.proofs.Common.{◌≡◌, ◌-◌, [], length, drop, sym, ◌∙◌, arith, length-drop}
use Rattle.std.proofs.lemmas.Slice.{between_to_end}
use Rattle.mime_base.specs.Matching.Elements.{elements}
use Rattle.mime_base.specs.Matching.Folding.{compared}
use Rattle.mime_base.specs.declared.matching.attempt.Halt.TheVariants.{BothEnd, Refused}
use Rattle.mime_base.proofs.MatchingLemmas.Endings.{ending-part, ending-size, ending-star, ending-whole, refused-unended}
use Rattle.mime_base.proofs.MatchingLemmas.Lasts.{end-found, end-tests, end-unfound, short-matches, short-tests, singles-size}
use Rattle.mime_base.proofs.matching.try_ending.Goals as goal

pub returns-then-name-ending-clause-found : goal.returns-then-name-ending-clause-found
returns-then-name-ending-clause-found c =
    sym (short-matches c.args.cased _ c.args.name.now (length c.args.ending.now) (ending-star c.args.cased _ c.requires)
    (ending-size c.args.cased _ c.requires) c.if-name-ending.true)

pub returns-then-name-ending-clause-tests : goal.returns-then-name-ending-clause-tests
returns-then-name-ending-clause-tests c =
    sym (short-tests c.args.cased _ c.args.name.now (length c.args.ending.now) (ending-star c.args.cased _ c.requires)
    (ending-size c.args.cased _ c.requires) c.if-name-ending.true)

pub returns-then-equal-ending : goal.returns-then-equal-ending
returns-then-equal-ending c =
    let size = length c.args.ending.now in
    let es = elements (compared c.args.cased c.args.ending.now) in
    let start = length c.args.name.now - size in
    let none = ending-star c.args.cased c.args.ending.now c.requires in
    let is = ending-size c.args.cased c.args.ending.now c.requires in
    let left = between_to_end c.args.name.now start (length c.args.name.now) (omega arith) in
    let same : size ≡ length (drop start c.args.name.now) = omega (arith, length-drop start c.args.name.now) in
    let goes = ending-whole c.args.cased c.args.ending.now c.requires (drop start c.args.name.now) same
    (sym (rw left at c.common_compared-equal.ensures.common) ∙ c.if-equal-ending.true) in
    let made = end-tests c.args.cased es c.args.name.now size none is (omega arith) size [] BothEnd goes in
    record {
      found = sym (end-found c.args.cased es c.args.name.now size none is (omega arith) size [] goes);
      tests = omega (arith, made, c.if-equal-ending.true);
      least = omega (arith, singles-size es none, is, c.if-equal-ending.true);
      most = omega (arith, c.if-equal-ending.true);
    }

pub returns-else-equal-ending : goal.returns-else-equal-ending
returns-else-equal-ending c =
    let size = length c.args.ending.now in
    let es = elements (compared c.args.cased c.args.ending.now) in
    let start = length c.args.name.now - size in
    let none = ending-star c.args.cased c.args.ending.now c.requires in
    let is = ending-size c.args.cased c.args.ending.now c.requires in
    let left = between_to_end c.args.name.now start (length c.args.name.now) (omega arith) in
    let same : size ≡ length (drop start c.args.name.now) = omega (arith, length-drop start c.args.name.now) in
    let goes = ending-part c.args.cased c.args.ending.now c.requires (drop start c.args.name.now) same
    c.common_compared-equal.result (rw left at c.common_compared-equal.ensures.common)
    (omega (arith, c.common_compared-equal.ensures.within, c.if-equal-ending.false)) in
    let made = end-tests c.args.cased es c.args.name.now size none is (omega arith) c.common_compared-equal.result [] Refused goes in
    let unfound = end-unfound c.args.cased es c.args.name.now size none is (omega arith) c.common_compared-equal.result [] Refused goes
    refused-unended in
    record {
      found = sym unfound;
      tests = omega (arith, made);
      least = omega arith;
      most = omega (arith, c.common_compared-equal.ensures.within, c.if-equal-ending.false);
    }
